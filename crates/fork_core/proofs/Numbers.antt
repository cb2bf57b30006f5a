-- Lists of numbers that grow in a loop.
use Rattle.std.proofs.Common.{◌≡◌, ℕ, zero, suc, ◌+◌, ◌<◌, ◌≤◌, ◌⊎◌, inl, inr, List, [], ◌∷◌, ◌++◌, length, slice_index, length-append, refl, sym, subst, arith, lit<}
use Rattle.std.specs.List.{Contains}
use Rattle.std.specs.List.Sorted.{IsStrictlyIncreasing}
use Rattle.std.proofs.Math.ListN.{get_or-append}
use Rattle.std.proofs.Math.Seq.{get_or-append_seam}
use Rattle.std.proofs.lemmas.List.Elements.{Contains-append_left, Contains-append_right, Contains-append_cases}
use Rattle.fork_core.specs.Choices.{AreAllNumbers}

-- the numbers below n of which P holds, in order
pub record ListsBelow (P : ℕ → Type 0) (xs : List ℕ) (n : ℕ) : Type 0 where
  pub rising : IsStrictlyIncreasing xs
  pub low : (k : ℕ) → k < length xs → slice_index xs k < n
  pub sound : (k : ℕ) → Contains xs k → (k < n) × P k
  pub whole : (k : ℕ) → k < n → P k → Contains xs k
  pub short : length xs ≤ n

pub lists_none : (P : ℕ → Type 0) → ListsBelow P [] 0
lists_none P =
    record {
      rising = λ k h. absurd (omega arith);
      low = λ k h. absurd (omega arith);
      sound = λ k c. absurd (omega (arith, c.1));
      whole = λ k h p. absurd (omega arith);
      short = omega arith;
    }

pub lists_skip : (P : ℕ → Type 0) (xs : List ℕ) (n : ℕ) → ListsBelow P xs n → (P n → ⊥) → ListsBelow P xs (n + 1)
lists_skip P xs n l not =
    record {
      rising = l.rising;
      low = λ k h. let e : slice_index xs k < n = l.low k h in omega arith;
      sound = λ k c. let e = l.sound k c in (omega (arith, e.0), e.1);
      whole = λ k h p.
          elim (below_or k n h) [ inl b ↦ l.whole k b p | inr e ↦ absurd (not (subst P e p)) ];
      short = omega (arith, l.short);
    }
  where
    below_or : (k n : ℕ) → k < n + 1 → (k < n) ⊎ (k ≡ n)
    below_or k n h = grind arith

pub lists_push : (P : ℕ → Type 0) (xs : List ℕ) (n : ℕ) → ListsBelow P xs n → P n → ListsBelow P (xs ++ n ∷ []) (n + 1)
lists_push P xs n l here =
    record {
      rising = rising;
      low = low;
      sound = λ k c.
          elim (Contains-append_cases xs (n ∷ []) k c) [
            | inl old ↦ let e = l.sound k old in (omega (arith, e.0), e.1)
            | inr new ↦ let e : n ≡ k = only k new in (subst (λ j. j < n + 1) e (omega arith), subst P e here)
          ];
      whole = λ k h p.
          elim (below_or k n h) [
            | inl b ↦ Contains-append_left xs (n ∷ []) k (l.whole k b p)
            | inr e ↦ subst (λ j. Contains (xs ++ n ∷ []) j) (sym e) (Contains-append_right xs (n ∷ []) n (0, lit< tt, refl))
          ];
      short = omega (arith, length-append xs (n ∷ []), l.short);
    }
  where
    below_or : (k n : ℕ) → k < n + 1 → (k < n) ⊎ (k ≡ n)
    below_or k n h = grind arith

    long : length (xs ++ n ∷ []) ≡ length xs + 1
    long = length-append xs (n ∷ [])

    only : (k : ℕ) → Contains (n ∷ []) k → n ≡ k
    only k (zero, h, is) = is
    only k (suc i, h, is) = absurd (omega (arith, h))

    last : slice_index (xs ++ n ∷ []) (length xs) ≡ n
    last = get_or-append_seam xs n [] 0

    low : (k : ℕ) → k < length (xs ++ n ∷ []) → slice_index (xs ++ n ∷ []) k < n + 1
    low k h =
        elim (below_or k (length xs) (omega (arith, long))) [
          | inl b ↦ let e : slice_index (xs ++ n ∷ []) k ≡ slice_index xs k = get_or-append xs (n ∷ []) 0 k b in let f : slice_index xs k < n = l.low k b in subst (λ j. j < n + 1) (sym e) (omega arith)
          | inr e ↦ subst (λ j. slice_index (xs ++ n ∷ []) j < n + 1) (sym e) (subst (λ j. j < n + 1) (sym last) (omega arith))
        ]

    rising : IsStrictlyIncreasing (xs ++ n ∷ [])
    rising k h =
        let inside : k < length xs = omega (arith, long) in
        let e : slice_index (xs ++ n ∷ []) k ≡ slice_index xs k = get_or-append xs (n ∷ []) 0 k inside in
        elim (below_or (k + 1) (length xs) (omega (arith, long))) [
          | inl b ↦
              let f : slice_index (xs ++ n ∷ []) (k + 1) ≡ slice_index xs (k + 1) = get_or-append xs (n ∷ []) 0 (k + 1) b in
              subst (λ j. slice_index (xs ++ n ∷ []) k < j) (sym f) (subst (λ j. j < slice_index xs (k + 1)) (sym e) (l.rising k b))
          | inr g ↦
              subst (λ j. slice_index (xs ++ n ∷ []) k < slice_index (xs ++ n ∷ []) j) (sym g)
              (subst (λ j. slice_index (xs ++ n ∷ []) k < j) (sym last) (subst (λ j. j < n) (sym e) (l.low k inside)))
        ]

pub all_of : (P Q : ℕ → Type 0) (xs : List ℕ) (n : ℕ) → ListsBelow P xs n → ((k : ℕ) → ((k < n) × P k → Q k) × (Q k → (k < n) × P k)) → AreAllNumbers Q xs
all_of P Q xs n l same =
    record {
      rising = l.rising;
      all = λ k. ((λ c. (same k).0 (l.sound k c)), λ q. let w = (same k).1 q in l.whole k w.0 w.1);
    }

pub none_of : (Q : ℕ → Type 0) → ((k : ℕ) → Q k → ⊥) → AreAllNumbers Q []
none_of Q not = record { rising = λ k h. absurd (omega arith); all = λ k. ((λ c. absurd (omega (arith, c.1))), λ q. absurd (not k q)) }

pub push_is : (P : ℕ → Type 0) (xs ys : List ℕ) (n : ℕ) → ListsBelow P xs n → P n → ys ≡ xs ++ n ∷ [] → ListsBelow P ys (n + 1)
push_is P xs ys n l here is = subst (λ zs. ListsBelow P zs (n + 1)) (sym is) (lists_push P xs n l here)

pub skip_is : (P : ℕ → Type 0) (xs ys : List ℕ) (n : ℕ) → ListsBelow P xs n → (P n → ⊥) → ys ≡ xs → ListsBelow P ys (n + 1)
skip_is P xs ys n l not is = subst (λ zs. ListsBelow P zs (n + 1)) (sym is) (lists_skip P xs n l not)
