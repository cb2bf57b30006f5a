-- What becomes of a response, as a function.
use Rattle.std.proofs.Common.{◌≡◌, ◌≢◌, ℕ, ◌↔◌, inl, inr, Bool, true, false, not, ◌&&◌, ◌||◌, nat_le, nat_lt, if◌then◌else◌, refl, sym, subst, arith}
use Rattle.std.specs.Bool.{Decides}
use Rattle.std.proofs.lemmas.Bool.{cases_Bool, or_cases, or_left, or_right, and_parts, and_from, not-true, not_from_false}
use Rattle.std.proofs.lemmas.Bool.Decides.{nat_tests}
use Rattle.fork_core.specs.declared.context.Forwarding.{Forwarding}
use Rattle.fork_core.specs.declared.context.Forwarding.TheVariants.{Now, Kept, Nothing}
use Rattle.fork_core.specs.Responses.{History, IsProvisionalCode, IsSuccessCode, IsFailureCode}
use Rattle.fork_core.specs.Choices.{GoesOnNow, IsToKeep}
use Rattle.fork_core.specs.Decisions.{first_finals, is_branch_of, goes_on_now, is_to_keep, forwarding_of}
use Rattle.fork_core.proofs.Decided.{none_is, is_none}

early_is : (code : ℕ) → Decides (nat_le 101 code && nat_lt code 200) (IsProvisionalCode code × (code ≢ 100))
early_is code = grind (arith, nat_tests)

success_is : (code : ℕ) → Decides (nat_le 200 code && nat_lt code 300) (IsSuccessCode code)
success_is code = grind (arith, nat_tests)

failure_is : (code : ℕ) → Decides (nat_le 300 code && nat_lt code 700) (IsFailureCode code)
failure_is code = grind (arith, nat_tests)

not_now : (b : Bool) → b ≡ false → not b ≡ true
not_now b e = not_from_false b e

goes_on_is : (h : History) (code : ℕ) (answered : Bool) → Decides (goes_on_now h code answered) (GoesOnNow h code answered)
goes_on_is h code answered = (there, back)
  where
    there : goes_on_now h code answered ≡ true → GoesOnNow h code answered
    there e =
        elim (or_cases (nat_le 101 code && nat_lt code 200 && not answered) (nat_le 200 code && nat_lt code 300 && (h.invite || not answered)) e) [
          | inl t ↦
              let w = and_parts (nat_le 101 code && nat_lt code 200) (not answered) t in
              let p = (early_is code).0 w.0 in
              inl (p.0, p.1, not-true answered w.1)
          | inr t ↦
              let w = and_parts (nat_le 200 code && nat_lt code 300) (h.invite || not answered) t in
              inr (
                (success_is code).0 w.0,
                elim (or_cases h.invite (not answered) w.1) [ inl i ↦ inl i | inr n ↦ inr (not-true answered n) ],
              )
        ]

    back : GoesOnNow h code answered → goes_on_now h code answered ≡ true
    back (inl w) =
        or_left (nat_le 101 code && nat_lt code 200 && not answered) (nat_le 200 code && nat_lt code 300 && (h.invite || not answered))
        (and_from (nat_le 101 code && nat_lt code 200) (not answered) ((early_is code).1 (w.0, w.1)) (not_now answered w.2))
    back (inr w) =
        or_right (nat_le 101 code && nat_lt code 200 && not answered) (nat_le 200 code && nat_lt code 300 && (h.invite || not answered))
        (and_from (nat_le 200 code && nat_lt code 300) (h.invite || not answered) ((success_is code).1 w.0)
        (elim w.1 [ inl i ↦ or_left h.invite (not answered) i | inr n ↦ or_right h.invite (not answered) (not_now answered n) ]))

to_keep_is : (h : History) (branch code : ℕ) → Decides (is_to_keep h branch code) (IsToKeep h branch code)
to_keep_is h branch code = (
  (λ e.
      let w = and_parts (nat_le 300 code && nat_lt code 700) (not (is_branch_of branch (first_finals h.responses))) e in
      ((failure_is code).0 w.0, none_is branch h.responses w.1)),
  λ w.
      and_from (nat_le 300 code && nat_lt code 700) (not (is_branch_of branch (first_finals h.responses))) ((failure_is code).1 w.0)
      (is_none branch h.responses w.1),
)

-- a response doesn't both go on and stay
apart : (h : History) (branch code : ℕ) (answered : Bool) → GoesOnNow h code answered → IsToKeep h branch code → ⊥
apart h branch code answered (inl w) k = absurd (omega (arith, w.0.1, k.0.0))
apart h branch code answered (inr w) k = absurd (omega (arith, w.0.1, k.0.0))

by_tests : (now keep : Bool) → (if now then Now else if keep then Kept else Nothing) ≡ Now → now ≡ true
by_tests true keep e = refl
by_tests false true e = absurd (cc)
by_tests false false e = absurd (cc)

by_keep : (now keep : Bool) → (if now then Now else if keep then Kept else Nothing) ≡ Kept → keep ≡ true
by_keep true keep e = absurd (cc)
by_keep false true e = refl
by_keep false false e = absurd (cc)

pub goes_on : (h : History) (branch code : ℕ) (answered : Bool) → (forwarding_of h branch code answered ≡ Now) ↔ GoesOnNow h code answered
goes_on h branch code answered = (
  (λ e. (goes_on_is h code answered).0 (by_tests (goes_on_now h code answered) (is_to_keep h branch code) e)),
  λ w. subst (λ b. (if b then Now else if is_to_keep h branch code then Kept else Nothing) ≡ Now) (sym ((goes_on_is h code answered).1 w)) refl,
)

pub is_kept_so : (h : History) (branch code : ℕ) (answered : Bool) → (forwarding_of h branch code answered ≡ Kept) ↔ IsToKeep h branch code
is_kept_so h branch code answered = (
  (λ e. (to_keep_is h branch code).0 (by_keep (goes_on_now h code answered) (is_to_keep h branch code) e)),
  λ w.
      elim (cases_Bool (goes_on_now h code answered)) [
        | inl t ↦ absurd (apart h branch code answered ((goes_on_is h code answered).0 t) w)
        | inr f ↦
            subst (λ b. (if b then Now else if is_to_keep h branch code then Kept else Nothing) ≡ Kept) (sym f)
            (subst (λ b. (if b then Kept else Nothing) ≡ Kept) (sym ((to_keep_is h branch code).1 w)) refl)
      ],
)

-- what says the same of both is one
same : (r s : Forwarding) → (r ≡ Now → s ≡ Now) → (r ≡ Kept → s ≡ Kept) → (s ≡ Now → r ≡ Now) → (s ≡ Kept → r ≡ Kept) → r ≡ s
same Now s n k n' k' = sym (n refl)
same Kept s n k n' k' = sym (k refl)
same Nothing Now n k n' k' = n' refl
same Nothing Kept n k n' k' = k' refl
same Nothing Nothing n k n' k' = refl

pub one_forwarding : (h : History) (branch code : ℕ) (answered : Bool) (r : Forwarding) → (r ≡ Now) ↔ GoesOnNow h code answered →
    (r ≡ Kept) ↔ IsToKeep h branch code → r ≡ forwarding_of h branch code answered
one_forwarding h branch code answered r now keep =
    let n = goes_on h branch code answered in
    let k = is_kept_so h branch code answered in
    same r (forwarding_of h branch code answered) (λ e. n.1 (now.0 e)) (λ e. k.1 (keep.0 e)) (λ e. now.1 (n.0 e)) (λ e. keep.1 (k.0 e))
