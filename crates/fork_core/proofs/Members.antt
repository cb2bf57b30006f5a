-- The elements of lists: of a filter, of a range, and of two lists of numbers that rise.
use Rattle.std.proofs.Common.{◌≡◌, ℕ, zero, suc, ◌+◌, ◌<◌, ◌≤◌, ◌⊎◌, inl, inr, Bool, true, cond, List, [], ◌∷◌, filter, slice_index, get_or, refl, sym, ◌∙◌, ap, subst, arith}
use Rattle.std.specs.List.{Contains, list_any, list_all, range_with_len}
use Rattle.std.specs.List.Sorted.{IsStrictlyIncreasing}
use Rattle.std.proofs.lemmas.Bool.{cases_Bool, false≢true, or_cases, or_left, or_right, and_parts, and_from}
use Rattle.std.proofs.lemmas.List.FromFn.{length-range_with_len, get_or-range_with_len}
use Rattle.std.proofs.lemmas.List.Kept.{AllPairs-from_increasing}

abbrev pub Mem : {X : Type 0} → List X → X → Type 0
Mem [] x = ⊥
Mem (y ∷ ys) x = (y ≡ x) ⊎ Mem ys x

pub mem_contains : {X : Type 0} (xs : List X) (x : X) → Mem xs x → Contains xs x
mem_contains [] x m = absurd m
mem_contains (y ∷ ys) x (inl e) = (0, omega arith, e)
mem_contains (y ∷ ys) x (inr m) = let c = mem_contains ys x m in (suc c.0, omega (arith, c.1), c.2)

pub contains_mem : {X : Type 0} (xs : List X) (x : X) → Contains xs x → Mem xs x
contains_mem [] x c = absurd (omega (arith, c.1))
contains_mem (y ∷ ys) x (zero, low, e) = inl e
contains_mem (y ∷ ys) x (suc k, low, e) = inr (contains_mem ys x (k, omega (arith, low), e))

pub mem_filter : {X : Type 0} (p : X → Bool) (xs : List X) (x : X) → Mem (filter p xs) x → Mem xs x × (p x ≡ true)
mem_filter p [] x m = absurd m
mem_filter {X} p (y ∷ ys) x m =
    elim (cases_Bool (p y)) [
      | inl t ↦
          elim (subst (λ b. Mem (cond b (y ∷ filter p ys) (filter p ys)) x) t m) [
            | inl e ↦ (inl e, subst (λ z. p z ≡ true) e t)
            | inr n ↦ let w = mem_filter p ys x n in (inr w.0, w.1)
          ]
      | inr f ↦ let w = mem_filter p ys x (subst (λ b. Mem (cond b (y ∷ filter p ys) (filter p ys)) x) f m) in (inr w.0, w.1)
    ]

pub filter_mem : {X : Type 0} (p : X → Bool) (xs : List X) (x : X) → Mem xs x → p x ≡ true → Mem (filter p xs) x
filter_mem p [] x m t = absurd m
filter_mem p (y ∷ ys) x (inl e) t =
    subst (λ b. Mem (cond b (y ∷ filter p ys) (filter p ys)) x) (sym (subst (λ z. p z ≡ true) (sym e) t)) (inl e)
filter_mem p (y ∷ ys) x (inr m) t =
    elim (cases_Bool (p y)) [
      | inl u ↦ subst (λ b. Mem (cond b (y ∷ filter p ys) (filter p ys)) x) (sym u) (inr (filter_mem p ys x m t))
      | inr u ↦ subst (λ b. Mem (cond b (y ∷ filter p ys) (filter p ys)) x) (sym u) (filter_mem p ys x m t)
    ]

pub any_mem : {X : Type 0} (p : X → Bool) (xs : List X) → list_any p xs ≡ true → (x : X) × Mem xs x × (p x ≡ true)
any_mem p [] e = absurd (false≢true e)
any_mem p (y ∷ ys) e =
    elim (or_cases (p y) (list_any p ys) e) [
      | inl t ↦ (y, inl refl, t)
      | inr t ↦ let w = any_mem p ys t in (w.0, inr w.1, w.2)
    ]

pub mem_any : {X : Type 0} (p : X → Bool) (xs : List X) (x : X) → Mem xs x → p x ≡ true → list_any p xs ≡ true
mem_any p [] x m t = absurd m
mem_any p (y ∷ ys) x (inl e) t = or_left (p y) (list_any p ys) (subst (λ z. p z ≡ true) (sym e) t)
mem_any p (y ∷ ys) x (inr m) t = or_right (p y) (list_any p ys) (mem_any p ys x m t)

pub all_mem : {X : Type 0} (p : X → Bool) (xs : List X) (x : X) → list_all p xs ≡ true → Mem xs x → p x ≡ true
all_mem p [] x e m = absurd m
all_mem p (y ∷ ys) x e (inl is) = subst (λ z. p z ≡ true) is (and_parts (p y) (list_all p ys) e).0
all_mem p (y ∷ ys) x e (inr m) = all_mem p ys x (and_parts (p y) (list_all p ys) e).1 m

pub mem_all : {X : Type 0} (p : X → Bool) (xs : List X) → ((x : X) → Mem xs x → p x ≡ true) → list_all p xs ≡ true
mem_all p [] each = refl
mem_all p (y ∷ ys) each = and_from (p y) (list_all p ys) (each y (inl refl)) (mem_all p ys (λ x m. each x (inr m)))

-- the numbers below n
pub range_mem : (a n k : ℕ) → a ≤ k → k < a + n → Mem (range_with_len a n) k
range_mem a zero k low high = absurd (omega (arith, low, high))
range_mem a (suc n) k low high =
    elim (same_or_above a k low) [
      | inl e ↦ inl e
      | inr above ↦ inr (range_mem (a + 1) n k (omega (arith, above)) (omega (arith, high)))
    ]
  where
    same_or_above : (a k : ℕ) → a ≤ k → (a ≡ k) ⊎ (a < k)
    same_or_above a k h = grind arith

pub mem_range : (a n k : ℕ) → Mem (range_with_len a n) k → (a ≤ k) × (k < a + n)
mem_range a zero k m = absurd m
mem_range a (suc n) k (inl e) = (omega (arith, e), omega (arith, e))
mem_range a (suc n) k (inr m) = let w = mem_range (a + 1) n k m in (omega (arith, w.0), omega (arith, w.1))

pub range_rises : (a n : ℕ) → IsStrictlyIncreasing (range_with_len a n)
range_rises a n = λ k h.
    let inside : k + 1 < n = subst (λ l. k + 1 < l) (length-range_with_len a n) h in
    let here : slice_index (range_with_len a n) k ≡ a + k = get_or-range_with_len a n k 0 (omega arith) in
    let next : slice_index (range_with_len a n) (k + 1) ≡ a + (k + 1) = get_or-range_with_len a n (k + 1) 0 inside in
    omega (arith, here, next)

-- each number is below all later ones
abbrev pub Rises : List ℕ → Type 0
Rises [] = Unit {0}
Rises (x ∷ xs) = ((y : ℕ) → Mem xs y → x < y) × Rises xs

pub rises : (xs : List ℕ) → IsStrictlyIncreasing xs → Rises xs
rises [] h = tt
rises (x ∷ xs) h = (
  (λ y m.
      let c = mem_contains xs y m in
      let below : x < get_or xs c.0 y = AllPairs-from_increasing (x ∷ xs) h 0 (suc c.0) y (omega arith) (omega (arith, c.1)) in
      subst (λ z. x < z) c.2 below),
  rises xs (λ k l.
      let place : suc k + 1 ≡ suc (k + 1) = omega arith in
      let first : get_or xs k 0 < get_or (x ∷ xs) (suc k + 1) 0 = h (suc k) (omega (arith, l)) in
      subst (λ i. get_or xs k 0 < get_or (x ∷ xs) i 0) place first),
)

-- lists that rise and have the same elements are one list
pub one_list : (xs ys : List ℕ) → Rises xs → Rises ys → ((n : ℕ) → Mem xs n → Mem ys n) → ((n : ℕ) → Mem ys n → Mem xs n) → xs ≡ ys
one_list [] [] r s there back = refl
one_list [] (y ∷ ys) r s there back = absurd (back y (inl refl))
one_list (x ∷ xs) [] r s there back = absurd (there x (inl refl))
one_list (x ∷ xs) (y ∷ ys) r s there back =
    let same : x ≡ y = heads (there x (inl refl)) (back y (inl refl)) in
    let tails : xs ≡ ys = one_list xs ys r.1 s.1 (λ n m. rest n (there n (inr m)) (r.0 n m) same) (λ n m. rest' n (back n (inr m)) (s.0 n m) same) in
    ap (λ z. z ∷ xs) same ∙ ap (λ zs. y ∷ zs) tails
  where
    heads : (y ≡ x) ⊎ Mem ys x → (x ≡ y) ⊎ Mem xs y → x ≡ y
    heads (inl e) _ = sym e
    heads (inr m) (inl e) = e
    heads (inr m) (inr m') = absurd (omega (arith, s.0 x m, r.0 y m'))

    rest : (n : ℕ) → (y ≡ n) ⊎ Mem ys n → x < n → x ≡ y → Mem ys n
    rest n (inl e) above is = absurd (omega arith)
    rest n (inr m) above is = m

    rest' : (n : ℕ) → (x ≡ n) ⊎ Mem xs n → y < n → x ≡ y → Mem xs n
    rest' n (inl e) above is = absurd (omega arith)
    rest' n (inr m) above is = m
