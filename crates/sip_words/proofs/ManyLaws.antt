-- The laws of a repetition, and the turns of a loop over it.
use Rattle.std.proofs.Common.{◌≡◌, ℕ, zero, suc, ◌-◌, ◌<◌, ◌≤◌, List, [], ◌∷◌, ◌++◌, refl, sym, subst, ap, ◌∙◌, arith, Option, Some, None, option_map, append_assoc}
use Rattle.std.proofs.lemmas.List.{append-nil}
use Rattle.std.proofs.lemmas.Option.{same_Some, none-some}
use Rattle.sip_words.specs.Many.{Next, Item, Done, Wrong, Repeats, before, with_next, many_from, many, Advances}

enough : {A : Type 0} (n m len : ℕ) (step : ℕ → Next A) (i : ℕ) → Advances len step → suc (len - i) ≤ n → suc (len - i) ≤ m → many_from n step i ≡ many_from m step i
unfolding many_from
enough zero m len step i goes a b = absurd (omega arith)
enough (suc n) zero len step i goes a b = absurd (omega arith)
enough {A} (suc n) (suc m) len step i goes a b = by_cases (step i) refl (λ j past inside. enough n m len step j goes (omega arith) (omega arith))
  where
    by_cases : (s : Next A) → step i ≡ s → ((j : ℕ) → i < j → i < len → many_from n step j ≡ many_from m step j) → many_from (suc n) step i ≡ many_from (suc m) step i
    by_cases (Item x j) e same = let g = goes i j x e in rw e (ap (λ (r : Option (List A × ℕ)). before x r) (same j g.0 g.1))
    by_cases Done e same = rw e refl
    by_cases Wrong e same = rw e refl

pub many_done : {A : Type 0} (len : ℕ) (step : ℕ → Next A) (i : ℕ) → step i ≡ Done → many len step i ≡ Some ([], i)
unfolding many many_from
many_done len step i e = rw e refl

pub many_wrong : {A : Type 0} (len : ℕ) (step : ℕ → Next A) (i : ℕ) → step i ≡ Wrong → many len step i ≡ None
unfolding many many_from
many_wrong len step i e = rw e refl

pub many_item : {A : Type 0} (len : ℕ) (step : ℕ → Next A) (i j : ℕ) (x : A) → Advances len step → step i ≡ Item x j → many len step i ≡ before x (many len step j)
unfolding many many_from
many_item {A} len step i j x goes e = let g = goes i j x e in rw e (ap (λ (r : Option (List A × ℕ)). before x r) (enough (len - i) (suc (len - j)) len step j goes (omega arith) (omega arith)))

-- what stands before other items, and what they are
before_some : {A : Type 0} (x : A) (o : Option (List A × ℕ)) (r : List A × ℕ) → before x o ≡ Some r → (q : List A × ℕ) × (o ≡ Some q) × (r.0 ≡ x ∷ q.0) × (r.1 ≡ q.1)
before_some x None r h = absurd (none-some r h)
before_some {A} x (Some q) r h = let e = same_Some _ _ h in (q, refl, ap (λ (y : List A × ℕ). y.0) (sym e), ap (λ (y : List A × ℕ). y.1) (sym e))

repeats_cons : {A : Type 0} (step : ℕ → Next A) (i k j : ℕ) (x : A) (xs ys : List A) (e : ℕ) → step i ≡ Item x k → ys ≡ x ∷ xs → j ≡ e → Repeats step k xs e → Repeats step i ys j
repeats_cons {A} step i k j x xs ys e h is end rest = subst (λ (zs : List A). Repeats step i zs j) (sym is) (k, h, subst (λ n. Repeats step k xs n) (sym end) rest)

from_repeats : {A : Type 0} (n : ℕ) (step : ℕ → Next A) (i : ℕ) (r : List A × ℕ) → many_from n step i ≡ Some r → Repeats step i r.0 r.1
unfolding many_from
from_repeats zero step i r h = absurd (none-some r h)
from_repeats {A} (suc n) step i r h = by_cases (step i) refl h (λ j q e. from_repeats n step j q e)
  where
    by_cases : (s : Next A) → step i ≡ s → with_next s (many_from n step) i ≡ Some r → ((j : ℕ) (q : List A × ℕ) → many_from n step j ≡ Some q → Repeats step j q.0 q.1) → Repeats step i r.0 r.1
    by_cases (Item x k) e h again = let q = before_some x (many_from n step k) r h in repeats_cons step i k r.1 x q.0.0 r.0 q.0.1 e q.2 q.3 (again k q.0 q.1)
    by_cases Done e h again =
        let same = same_Some _ _ h in
        let P : List A × ℕ → Type 0 = λ q. Repeats step i q.0 q.1 in
        subst P same (e, refl)
    by_cases Wrong e h again = absurd (none-some r h)

-- the function and the relation are the same
pub many_repeats : {A : Type 0} (len : ℕ) (step : ℕ → Next A) (i : ℕ) (r : List A × ℕ) → many len step i ≡ Some r → Repeats step i r.0 r.1
unfolding many
many_repeats len step i r h = from_repeats (suc (len - i)) step i r h

pub repeats_many : {A : Type 0} (len : ℕ) (step : ℕ → Next A) (i : ℕ) (xs : List A) (j : ℕ) → Advances len step → Repeats step i xs j → many len step i ≡ Some (xs, j)
repeats_many {A} len step i [] j goes h = many_done len step i h.0 ∙ ap (λ (n : ℕ). Some ([], n)) h.1
repeats_many {A} len step i (x ∷ xs) j goes h = many_item len step i h.0 x goes h.1 ∙ ap (λ (r : Option (List A × ℕ)). before x r) (repeats_many len step h.0 xs j goes h.2)

-- what was read before, and what is still read
abbrev pub with_front : {A : Type 0} → List A → Option (List A × ℕ) → Option (List A × ℕ)
with_front front read = option_map (λ r. (front ++ r.0, r.1)) read

regroup : {A : Type 0} (front : List A) (x : A) (read : Option (List A × ℕ)) → with_front front (before x read) ≡ with_front (front ++ x ∷ []) read
regroup {A} front x (Some r) = ap (λ (xs : List A). Some (xs, r.1)) (simp append_assoc)
regroup front x None = refl

pub starts : {A : Type 0} (o : Option (List A × ℕ)) → with_front [] o ≡ o
starts None = refl
starts (Some r) = refl

-- one turn of the loop, its exit where an item doesn't read, and its end
pub goes_on : {A : Type 0} (len : ℕ) (step : ℕ → Next A) (from i j : ℕ) (front : List A) (x : A) → Advances len step → step i ≡ Item x j → with_front front (many len step i) ≡ many len step from → with_front (front ++ x ∷ []) (many len step j) ≡ many len step from
goes_on {A} len step from i j front x goes e so_far = sym (regroup front x (many len step j)) ∙ ap (λ (r : Option (List A × ℕ)). with_front front r) (sym (many_item len step i j x goes e)) ∙ so_far

pub fails : {A : Type 0} (len : ℕ) (step : ℕ → Next A) (from i : ℕ) (front : List A) → step i ≡ Wrong → with_front front (many len step i) ≡ many len step from → many len step from ≡ None
fails {A} len step from i front e so_far = sym so_far ∙ ap (λ (r : Option (List A × ℕ)). with_front front r) (many_wrong len step i e)

pub ends : {A : Type 0} (len : ℕ) (step : ℕ → Next A) (from i : ℕ) (front : List A) → step i ≡ Done → with_front front (many len step i) ≡ many len step from → many len step from ≡ Some (front, i)
ends {A} len step from i front e so_far = sym so_far ∙ ap (λ (r : Option (List A × ℕ)). with_front front r) (many_done len step i e) ∙ ap (λ (xs : List A). Some (xs, i)) (append-nil front)
