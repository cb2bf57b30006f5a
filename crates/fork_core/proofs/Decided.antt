-- The functions of the history give what the relations name.
use Rattle.std.proofs.Common.{◌≡◌, ℕ, ◌<◌, ◌⊎◌, ◌↔◌, inl, inr, Bool, true, not, ◌&&◌, ◌==◌, nat_lt, if◌then◌else◌, Option, Some, None, List, [], ◌∷◌, length, filter, slice_index, refl, sym, ◌∙◌, ap, subst, arith}
use Rattle.std.specs.Bool.{Decides}
use Rattle.std.specs.Option.{IsNone}
use Rattle.std.specs.List.{range_with_len}
use Rattle.std.proofs.lemmas.Bool.{cases_Bool, both_ways, cases_eq, not-true, eqb-true, eq-eqb, ne_eqb, and_parts, and_from, or_cases, or_left, or_right, false_from_ne_true}
use Rattle.std.proofs.lemmas.Bool.Decides.{nat_tests}
use Rattle.std.proofs.lemmas.List.Kept.{IsStrictlyIncreasing-filter}
use Rattle.fork_core.specs.Responses.{BranchResponse, History, IsFailureCode, IsFinalCode, HasNoFinal, FirstFinal, IsKeptNow}
use Rattle.fork_core.specs.Responses.FirstFinal.{here, after}
use Rattle.fork_core.specs.Preference.{Preferred, group_of, place_in_class}
use Rattle.fork_core.specs.Choices.{IsBest, AreAllNumbers, IsToCancel, IsChallengeCode, IsChallenged, Joins, HasFailed, AreOfItsBranches}
use Rattle.fork_core.specs.Decisions.{is_final_code, is_failure_code, is_challenge_code, of_others, first_finals, kept_now, is_preferred, better, most_preferred, best_of, branches_of, is_branch_of, to_cancel, is_challenged, challenges, has_failed}
use Rattle.fork_core.specs.declared.context.Context.{Context}
use Rattle.fork_core.specs.Histories.{HasHistory}
use Rattle.fork_core.proofs.Finals.{all_map, first_branch, first_has, first_not_none}
use Rattle.fork_core.proofs.Members.{Mem, mem_contains, contains_mem, mem_filter, filter_mem, any_mem, mem_any, all_mem, mem_all, range_mem, mem_range, range_rises, rises, one_list}
use Rattle.fork_core.proofs.Best.{Before, to_before, from_before, irreflexive, transitive, one_best}

-- the tests of codes
final_is : (code : ℕ) → Decides (is_final_code code) (IsFinalCode code)
final_is code = grind (arith, nat_tests)

failure_is : (code : ℕ) → Decides (is_failure_code code) (IsFailureCode code)
failure_is code = grind (arith, nat_tests)

challenge_is : (code : ℕ) → Decides (is_challenge_code code) (IsChallengeCode code)
challenge_is code = grind (arith, nat_tests)

-- the first final responses
first_of_mem : (xs : List BranchResponse) (r : BranchResponse) → Mem (first_finals xs) r → FirstFinal r.branch xs r
first_of_mem [] r m = absurd m
first_of_mem (x ∷ xs) r m =
    elim (cases_Bool (is_final_code x.code)) [
      | inl t ↦
          elim (subst (λ b. Mem (if b then x ∷ of_others x.branch (first_finals xs) else first_finals xs) r) t m) [
            | inl e ↦ subst (λ (s : BranchResponse). FirstFinal s.branch (x ∷ xs) s) e (here x xs refl ((final_is x.code).0 t))
            | inr n ↦
                let w = mem_filter (λ (s : BranchResponse). not (s.branch == x.branch)) (first_finals xs) r n in
                after x xs r (λ e. absurd (both_ways (r.branch == x.branch) (not-true (r.branch == x.branch) w.1) (eq-eqb r.branch x.branch (sym e)))) (first_of_mem xs r w.0)
          ]
      | inr f ↦
          after x xs r (λ _ final. absurd (both_ways (is_final_code x.code) f ((final_is x.code).1 final)))
          (first_of_mem xs r (subst (λ b. Mem (if b then x ∷ of_others x.branch (first_finals xs) else first_finals xs) r) f m))
    ]

mem_of_first : (branch : ℕ) (xs : List BranchResponse) (r : BranchResponse) → FirstFinal branch xs r → Mem (first_finals xs) r
mem_of_first branch _ r (here _ later is final) =
    subst (λ b. Mem (if b then r ∷ of_others r.branch (first_finals later) else first_finals later) r) (sym ((final_is r.code).1 final)) (inl refl)
mem_of_first branch _ r (after x later _ not' first) =
    elim (cases_Bool (is_final_code x.code)) [
      | inl t ↦
          let apart : r.branch ≡ x.branch → ⊥ = λ e. not' (sym e ∙ first_branch branch later r first) ((final_is x.code).0 t) in
          subst (λ b. Mem (if b then x ∷ of_others x.branch (first_finals later) else first_finals later) r) (sym t)
          (inr (filter_mem (λ (s : BranchResponse). not (s.branch == x.branch)) (first_finals later) r (mem_of_first branch later r first) (ap not (ne_eqb r.branch x.branch apart))))
      | inr f ↦
          subst (λ b. Mem (if b then x ∷ of_others x.branch (first_finals later) else first_finals later) r) (sym f) (mem_of_first branch later r first)
    ]

first_or_none : (n : ℕ) (xs : List BranchResponse) → HasNoFinal xs n ⊎ ((r : BranchResponse) × FirstFinal n xs r)
first_or_none n [] = inl tt
first_or_none n (x ∷ xs) =
    elim (cases_eq x.branch n) [
      | inl is ↦
          elim (cases_Bool (is_final_code x.code)) [
            | inl t ↦ inr (x, here x xs is ((final_is x.code).0 t))
            | inr f ↦ go (λ _ final. absurd (both_ways (is_final_code x.code) f ((final_is x.code).1 final))) (first_or_none n xs)
          ]
      | inr other ↦ go (λ is. absurd (other is)) (first_or_none n xs)
    ]
  where
    go : (x.branch ≡ n → IsFinalCode x.code → ⊥) → HasNoFinal xs n ⊎ ((r : BranchResponse) × FirstFinal n xs r) →
        HasNoFinal (x ∷ xs) n ⊎ ((r : BranchResponse) × FirstFinal n (x ∷ xs) r)
    go fails (inl none) = inl (fails, none)
    go fails (inr w) = inr (w.0, after x xs w.0 fails w.1)

-- a branch among the responses of a list
among_is : (n : ℕ) (xs : List BranchResponse) → is_branch_of n xs ≡ true → (r : BranchResponse) × Mem xs r × (r.branch ≡ n)
among_is n xs e = let w = any_mem (λ (r : BranchResponse). r.branch == n) xs e in (w.0, w.1, eqb-true w.0.branch n w.2)

is_among_of : (n : ℕ) (xs : List BranchResponse) (r : BranchResponse) → Mem xs r → r.branch ≡ n → is_branch_of n xs ≡ true
is_among_of n xs r m is = mem_any (λ (s : BranchResponse). s.branch == n) xs r m (eq-eqb r.branch n is)

pub none_is : (n : ℕ) (xs : List BranchResponse) → not (is_branch_of n (first_finals xs)) ≡ true → HasNoFinal xs n
none_is n xs e =
    elim (first_or_none n xs) [
      | inl none ↦ none
      | inr w ↦
          absurd
          (both_ways (is_branch_of n (first_finals xs)) (not-true _ e)
          (is_among_of n (first_finals xs) w.0 (mem_of_first n xs w.0 w.1) (first_branch n xs w.0 w.1)))
    ]

pub is_none : (n : ℕ) (xs : List BranchResponse) → HasNoFinal xs n → not (is_branch_of n (first_finals xs)) ≡ true
is_none n xs none =
    ap not
    (false_from_ne_true (is_branch_of n (first_finals xs))
    (λ e.
    let w = among_is n (first_finals xs) e in
    first_not_none n xs w.0 (subst (λ k. FirstFinal k xs w.0) w.2 (first_of_mem xs w.0 w.1)) none))

-- the kept responses of the round
pub kept_is : (h : History) (r : BranchResponse) → Mem (kept_now h) r → IsKeptNow h r
kept_is h r m =
    let w = mem_filter (λ (s : BranchResponse). is_failure_code s.code && (s.round == h.round)) (first_finals h.responses) r m in
    let both = and_parts (is_failure_code r.code) (r.round == h.round) w.1 in
    record {
      kept = record { counts = first_of_mem h.responses r w.0; failure = (failure_is r.code).0 both.0 };
      now = eqb-true r.round h.round both.1;
    }

pub is_kept : (h : History) (r : BranchResponse) → IsKeptNow h r → Mem (kept_now h) r
is_kept h r k =
    filter_mem (λ (s : BranchResponse). is_failure_code s.code && (s.round == h.round)) (first_finals h.responses) r
    (mem_of_first r.branch h.responses r k.kept.counts)
    (and_from (is_failure_code r.code) (r.round == h.round) ((failure_is r.code).1 k.kept.failure) (eq-eqb r.round h.round k.now))

-- the preference as a test
before_is : (g p c b g' p' c' b' : ℕ) →
    Decides (if not (g == g') then nat_lt g g' else if not (p == p') then nat_lt p p' else if not (c == c') then nat_lt c c' else nat_lt b b') (Before g p c b g' p' c' b')
unfolding Before
before_is g p c b g' p' c' b' = grind (arith, nat_tests)

preferred_is : (r s : BranchResponse) → Decides (is_preferred r s) (Preferred r.code r.branch s.code s.branch)
preferred_is r s =
    let d = before_is (group_of r.code) (place_in_class r.code) r.code r.branch (group_of s.code) (place_in_class s.code) s.code s.branch in
    ((λ t. from_before r.code r.branch s.code s.branch (d.0 t)), λ p. d.1 (to_before r.code r.branch s.code s.branch p))

before_cases : (g p c b g' p' c' b' : ℕ) → Before g p c b g' p' c' b' ⊎ (Before g' p' c' b' g p c b ⊎ ((c ≡ c') × (b ≡ b')))
unfolding Before
before_cases g p c b g' p' c' b' = grind arith

preferred_cases : (x s : BranchResponse) →
    Preferred x.code x.branch s.code s.branch ⊎ (Preferred s.code s.branch x.code x.branch ⊎ ((x.code ≡ s.code) × (x.branch ≡ s.branch)))
preferred_cases x s =
    elim (before_cases (group_of x.code) (place_in_class x.code) x.code x.branch (group_of s.code) (place_in_class s.code) s.code s.branch) [
      | inl h ↦ inl (from_before x.code x.branch s.code s.branch h)
      | inr (inl h) ↦ inr (inl (from_before s.code s.branch x.code x.branch h))
      | inr (inr h) ↦ inr (inr h)
    ]

-- the one to which no other of the list is preferred
abbrev pub Leads : List BranchResponse → BranchResponse → Type 0
Leads xs r = Mem xs r × ((s : BranchResponse) → Mem xs s → Preferred s.code s.branch r.code r.branch → ⊥)

abbrev pub IsLeader : List BranchResponse → Option BranchResponse → Type 0
IsLeader xs None = (r : BranchResponse) → Mem xs r → ⊥
IsLeader xs (Some r) = Leads xs r

leader : (xs : List BranchResponse) → IsLeader xs (most_preferred xs)
leader [] = λ r m. m
leader (x ∷ xs) = go (most_preferred xs) (leader xs)
  where
    not_itself : (s : BranchResponse) → x ≡ s → Preferred s.code s.branch x.code x.branch → ⊥
    not_itself s e p = irreflexive x.code x.branch (subst (λ (t : BranchResponse). Preferred t.code t.branch x.code x.branch) (sym e) p)

    new : (r : BranchResponse) → Leads xs r → (Preferred r.code r.branch x.code x.branch → ⊥) → Leads (x ∷ xs) x
    new r l not' = (
      inl refl,
      λ s m p.
          elim m [
            | inl e ↦ not_itself s e p
            | inr n ↦
                elim (preferred_cases s r) [
                  | inl q ↦ l.1 s n q
                  | inr (inl q) ↦ not' (transitive r.code r.branch s.code s.branch x.code x.branch q p)
                  | inr (inr is) ↦ not' (subst (λ b. Preferred r.code b x.code x.branch) is.1 (subst (λ c. Preferred c s.branch x.code x.branch) is.0 p))
                ]
          ],
    )

    old : (r : BranchResponse) → Leads xs r → Preferred r.code r.branch x.code x.branch → Leads (x ∷ xs) r
    old r l q = (
      inr l.0,
      λ s m p.
          elim m [
            | inl e ↦
                irreflexive r.code r.branch
                (transitive r.code r.branch x.code x.branch r.code r.branch q (subst (λ (t : BranchResponse). Preferred t.code t.branch r.code r.branch) (sym e) p))
            | inr n ↦ l.1 s n p
          ],
    )

    go : (o : Option BranchResponse) → IsLeader xs o → IsLeader (x ∷ xs) (Some (better x o))
    go None none = (inl refl, λ s m p. elim m [ inl e ↦ not_itself s e p | inr n ↦ none s n ])
    go (Some r) l =
        elim (cases_Bool (is_preferred r x)) [
          | inl t ↦ subst (λ b. Leads (x ∷ xs) (if b then r else x)) (sym t) (old r l ((preferred_is r x).0 t))
          | inr f ↦ subst (λ b. Leads (x ∷ xs) (if b then r else x)) (sym f) (new r l (λ q. both_ways (is_preferred r x) f ((preferred_is r x).1 q)))
        ]

abbrev pub IsBestOf : History → Option BranchResponse → Type 0
IsBestOf h None = (r : BranchResponse) → ¬ IsKeptNow h r
IsBestOf h (Some r) = IsBest h r

pub best_is : (h : History) → IsBestOf h (best_of h)
best_is h = go (best_of h) (leader (kept_now h))
  where
    go : (o : Option BranchResponse) → IsLeader (kept_now h) o → IsBestOf h o
    go None none = λ r k. none r (is_kept h r k)
    go (Some r) l = record { kept = kept_is h r l.0; best = λ other k p. l.1 other (is_kept h other k) p }

pub is_best : (h : History) (r : BranchResponse) → IsBest h r → best_of h ≡ Some r
is_best h r b = go (best_of h) (best_is h)
  where
    go : (o : Option BranchResponse) → IsBestOf h o → o ≡ Some r
    go None none = absurd (none r b.kept)
    go (Some s) l = ap Some (one_best h s r l b)

pub best_some : (h : History) (r : BranchResponse) → best_of h ≡ Some r → IsBest h r
best_some h r e = subst (λ o. IsBestOf h o) e (best_is h)

pub best_none : (h : History) → IsNone (best_of h) ↔ ((r : BranchResponse) → ¬ IsKeptNow h r)
best_none h = (there (best_of h) (best_is h), back (best_of h) (best_is h))
  where
    there : (o : Option BranchResponse) → IsBestOf h o → IsNone o → (r : BranchResponse) → ¬ IsKeptNow h r
    there None none i = none
    there (Some r) b i = absurd (cc)

    back : (o : Option BranchResponse) → IsBestOf h o → ((r : BranchResponse) → ¬ IsKeptNow h r) → IsNone o
    back None none fails = refl
    back (Some r) b fails = absurd (fails r b.kept)

-- lists of all numbers of which something holds
pub one_all : (P : ℕ → Type 0) (xs ys : List ℕ) → AreAllNumbers P xs → AreAllNumbers P ys → xs ≡ ys
one_all P xs ys a b =
    one_list xs ys (rises xs a.rising) (rises ys b.rising)
    (λ n m. contains_mem ys n ((b.all n).1 ((a.all n).0 (mem_contains xs n m))))
    (λ n m. contains_mem xs n ((a.all n).1 ((b.all n).0 (mem_contains ys n m))))

all_filtered : (P : ℕ → Type 0) (p : ℕ → Bool) (n : ℕ) → ((k : ℕ) → k < n → p k ≡ true → P k) → ((k : ℕ) → P k → (k < n) × (p k ≡ true)) →
    AreAllNumbers P (filter p (range_with_len 0 n))
all_filtered P p n sound whole =
    record {
      rising = IsStrictlyIncreasing-filter p (range_with_len 0 n) (range_rises 0 n);
      all = λ k. (
        (λ c.
            let w = mem_filter p (range_with_len 0 n) k (contains_mem (filter p (range_with_len 0 n)) k c) in
            let low = mem_range 0 n k w.0 in sound k (omega (arith, low.1)) w.1),
        λ h.
            let w = whole k h in
            mem_contains (filter p (range_with_len 0 n)) k (filter_mem p (range_with_len 0 n) k (range_mem 0 n k (omega arith) (omega (arith, w.0))) w.1),
      );
    }

all_none : (P : ℕ → Type 0) → ((k : ℕ) → P k → ⊥) → AreAllNumbers P []
all_none P fails = record { rising = λ k h. absurd (omega arith); all = λ k. ((λ c. absurd (omega (arith, c.1))), λ h. absurd (fails k h)) }

abbrev is_open : History → ℕ → Bool
is_open h branch = not (is_branch_of branch (first_finals h.responses))

-- the branches to cancel
pub cancelled : (h : History) → AreAllNumbers (IsToCancel h) (to_cancel h)
cancelled h =
    elim (cases_Bool h.invite) [
      | inl t ↦
          subst (λ b. AreAllNumbers (IsToCancel h) (if b then filter (is_open h) (branches_of h) else [])) (sym t)
          (all_filtered (IsToCancel h) (is_open h) (length h.branches) (λ k low e. (t, low, none_is k h.responses e)) (λ k w. (w.1, is_none k h.responses w.2)))
      | inr f ↦
          subst (λ b. AreAllNumbers (IsToCancel h) (if b then filter (is_open h) (branches_of h) else [])) (sym f)
          (all_none (IsToCancel h) (λ k w. both_ways h.invite f w.0))
    ]

-- the challenges
pub challenged_of : (h : History) (n : ℕ) → is_challenged h n ≡ true → IsChallenged h n
challenged_of h n e =
    let w = among_is n (filter (λ (r : BranchResponse). is_challenge_code r.code) (kept_now h)) e in
    let m = mem_filter (λ (r : BranchResponse). is_challenge_code r.code) (kept_now h) w.0 w.1 in
    (w.0, kept_is h w.0 m.0, w.2, (challenge_is w.0.code).0 m.1)

pub of_challenged : (h : History) (n : ℕ) → IsChallenged h n → is_challenged h n ≡ true
of_challenged h n w =
    is_among_of n (filter (λ (r : BranchResponse). is_challenge_code r.code) (kept_now h)) w.0
    (filter_mem (λ (r : BranchResponse). is_challenge_code r.code) (kept_now h) w.0 (is_kept h w.0 w.1) ((challenge_is w.0.code).1 w.3)) w.2

abbrev other : History → ℕ → ℕ → Bool
other h chosen branch = is_challenged h branch && not (branch == chosen)

pub joined : (h : History) (chosen : ℕ) → AreOfItsBranches h → AreAllNumbers (Joins h chosen) (challenges h chosen)
joined h chosen known =
    elim (cases_Bool (is_challenged h chosen)) [
      | inl t ↦
          subst (λ b. AreAllNumbers (Joins h chosen) (if b then filter (other h chosen) (branches_of h) else [])) (sym t)
          (all_filtered (Joins h chosen) (other h chosen) (length h.branches)
          (λ k low e.
          let w = and_parts (is_challenged h k) (not (k == chosen)) e in
          (challenged_of h chosen t, challenged_of h k w.0, λ is. both_ways (k == chosen) (not-true (k == chosen) w.1) (eq-eqb k chosen is)))
          (λ k w. (
            inside k w.1,
            and_from (is_challenged h k) (not (k == chosen)) (of_challenged h k w.1) (ap not (ne_eqb k chosen w.2)),
          )))
      | inr f ↦
          subst (λ b. AreAllNumbers (Joins h chosen) (if b then filter (other h chosen) (branches_of h) else [])) (sym f)
          (all_none (Joins h chosen) (λ k w. both_ways (is_challenged h chosen) f (of_challenged h chosen w.0)))
    ]
  where
    inside : (k : ℕ) → IsChallenged h k → k < length h.branches
    inside k w =
        subst (λ b. b < length h.branches) w.2
        (first_has (λ (r : BranchResponse). r.branch < length h.branches) w.0.branch h.responses w.0 w.1.kept.counts known)

-- the round that has failed
pub failed_is : (h : History) → has_failed h ≡ true → HasFailed h
failed_is h e = λ k low now.
    let one = all_mem _ (branches_of h) k e (range_mem 0 (length h.branches) k (omega arith) (omega (arith, low))) in
    elim (or_cases (not (slice_index h.branches k == h.round)) (is_branch_of k (filter (λ (r : BranchResponse). is_failure_code r.code) (first_finals h.responses))) one) [
      | inl n ↦ absurd (both_ways (slice_index h.branches k == h.round) (not-true (slice_index h.branches k == h.round) n) (eq-eqb (slice_index h.branches k) h.round now))
      | inr t ↦
          let w = among_is k (filter (λ (r : BranchResponse). is_failure_code r.code) (first_finals h.responses)) t in
          let m = mem_filter (λ (r : BranchResponse). is_failure_code r.code) (first_finals h.responses) w.0 w.1 in
          (w.0, subst (λ b. FirstFinal b h.responses w.0) w.2 (first_of_mem h.responses w.0 m.0), (failure_is w.0.code).0 m.1)
    ]

pub is_failed : (h : History) → HasFailed h → has_failed h ≡ true
is_failed h failed =
    mem_all _ (branches_of h)
    (λ k m.
    let low = mem_range 0 (length h.branches) k m in
    elim (cases_eq (slice_index h.branches k) h.round) [
      | inl now ↦
          let w = failed k (omega (arith, low.1)) now in
          or_right (not (slice_index h.branches k == h.round)) (is_branch_of k (filter (λ (r : BranchResponse). is_failure_code r.code) (first_finals h.responses)))
          (is_among_of k (filter (λ (r : BranchResponse). is_failure_code r.code) (first_finals h.responses)) w.0
          (filter_mem (λ (r : BranchResponse). is_failure_code r.code) (first_finals h.responses) w.0 (mem_of_first k h.responses w.0 w.1) ((failure_is w.0.code).1 w.2))
          (first_branch k h.responses w.0 w.1))
      | inr other ↦
          or_left (not (slice_index h.branches k == h.round)) (is_branch_of k (filter (λ (r : BranchResponse). is_failure_code r.code) (first_finals h.responses)))
          (ap not (ne_eqb (slice_index h.branches k) h.round other))
    ])

-- the same where a context stands for the history
pub known_is : (c : Context) (h : History) → HasHistory c h → AreOfItsBranches h
known_is c h s = all_map _ (λ (r : BranchResponse). r.branch < length h.branches) (λ r w. w.0) h.responses s.known

pub cancelled_is : (h : History) (xs : List ℕ) → AreAllNumbers (IsToCancel h) xs → xs ≡ to_cancel h
cancelled_is h xs a = one_all (IsToCancel h) xs (to_cancel h) a (cancelled h)

pub joined_is : (c : Context) (h : History) (chosen : ℕ) (xs : List ℕ) → HasHistory c h → AreAllNumbers (Joins h chosen) xs → xs ≡ challenges h chosen
joined_is c h chosen xs s a = one_all (Joins h chosen) xs (challenges h chosen) a (joined h chosen (known_is c h s))

pub best_is_none : (h : History) → ((r : BranchResponse) → ¬ IsKeptNow h r) → best_of h ≡ None
best_is_none h none = go (best_of h) (best_is h)
  where
    go : (o : Option BranchResponse) → IsBestOf h o → o ≡ None
    go None b = refl
    go (Some r) b = absurd (none r b.kept)
