-- The first of several refusals.
use Rattle.std.proofs.Common.{◌≡◌, ◌⊎◌, ℕ, ◌<◌, ◌≤◌, ◌+◌, List, [], ◌∷◌, ◌++◌, length, take, refl, sym, ap, ◌∙◌, subst, inl, inr, get_or, arith}
use Rattle.std.proofs.lemmas.List.{take_more}
use Rattle.std.proofs.lemmas.Bool.{cases_lt}
use Rattle.std.proofs.lemmas.List.Elements.{All-push, All-nil, Contains-append_left, Contains-append_right}
use Rattle.cfg_tree.specs.Refusals.{Refusal, GoesBefore, IsFirst}

-- plain numbers: a pair is not greater than another
abbrev NotGreater : ℕ → ℕ → ℕ → ℕ → Type 0
NotGreater a k b l = (a < b) ⊎ ((a ≡ b) × (k ≤ l))

through : (a b c k l m : ℕ) → NotGreater a k b l → NotGreater b l c m → NotGreater a k c m
through a b c k l m (inl h) (inl i) = inl (omega arith)
through a b c k l m (inl h) (inr (e, i)) = inl (omega arith)
through a b c k l m (inr (e, h)) (inl i) = inl (omega arith)
through a b c k l m (inr (e, h)) (inr (f, i)) = inr (omega arith, omega arith)

other_way : (a b k l : ℕ) → (NotGreater a k b l → ⊥) → NotGreater b l a k
other_way a b k l h = elim (cases_lt b a) [
  | inl lt ↦ inl lt
  | inr le ↦ elim (cases_lt a b) [
    | inl lt ↦ absurd (h (inl lt))
    | inr ge ↦ elim (cases_lt l k) [
      | inl less ↦ inr (omega arith, omega arith)
      | inr more ↦ absurd (h (inr (omega arith, more)))
    ]
  ]
]

goes_through : (a b c : Refusal) → GoesBefore a b → GoesBefore b c → GoesBefore a c
goes_through a b c = through a.at.from b.at.from c.at.from a.kind b.kind c.kind

goes_other_way : (a b : Refusal) → (GoesBefore a b → ⊥) → GoesBefore b a
goes_other_way a b = other_way a.at.from b.at.from a.kind b.kind

-- of one refusal
pub first_alone : (r : Refusal) → IsFirst (r ∷ []) r
first_alone r = record {
  listed = (0, omega arith, refl);
  first = All-push (GoesBefore r) [] r (All-nil (GoesBefore r)) (inr (refl, omega arith));
}

-- of one more: it stays, or it is the one more
first_stays : (rs : List Refusal) (r x : Refusal) → IsFirst rs r → GoesBefore r x → IsFirst (rs ++ x ∷ []) r
first_stays rs r x h before = record {
  listed = Contains-append_left rs (x ∷ []) r h.listed;
  first = All-push (GoesBefore r) rs x h.first before;
}

first_changes : (rs : List Refusal) (r x : Refusal) → IsFirst rs r → (GoesBefore r x → ⊥) → IsFirst (rs ++ x ∷ []) x
first_changes rs r x h not_before = record {
  listed = Contains-append_right rs (x ∷ []) x (0, omega arith, refl);
  first = All-push (GoesBefore x) rs x (λ k d lt. goes_through x r (get_or rs k d) (goes_other_way r x not_before) (h.first k d lt)) (inr (refl, omega arith));
}

-- of those up to a place, one step on
one_more : (rest : List Refusal) (i : ℕ) (x : Refusal) → i < length rest → x ≡ get_or rest i x → take i rest ++ x ∷ [] ≡ take (i + 1) rest
one_more rest i x lt is = sym (take_more rest i x lt ∙ ap (λ y. take i rest ++ y ∷ []) (sym is))

pub step_stays : (f : Refusal) (rest : List Refusal) (i : ℕ) (r x : Refusal) → i < length rest → x ≡ get_or rest i x → IsFirst (f ∷ take i rest) r → GoesBefore r x
    → IsFirst (f ∷ take (i + 1) rest) r
step_stays f rest i r x lt is h before = subst (λ (rs : List Refusal). IsFirst (f ∷ rs) r) (one_more rest i x lt is) (first_stays (f ∷ take i rest) r x h before)

pub step_changes : (f : Refusal) (rest : List Refusal) (i : ℕ) (r x : Refusal) → i < length rest → x ≡ get_or rest i x → IsFirst (f ∷ take i rest) r → (GoesBefore r x → ⊥)
    → IsFirst (f ∷ take (i + 1) rest) x
step_changes f rest i r x lt is h not_before = subst (λ (rs : List Refusal). IsFirst (f ∷ rs) x) (one_more rest i x lt is) (first_changes (f ∷ take i rest) r x h not_before)
