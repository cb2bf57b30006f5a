-- Lists of lists, the records of one give, and the word of a take.
use Rattle.std.proofs.Common.{◌≡◌, ◌≢◌, ℕ, zero, suc, ◌+◌, ◌*◌, ◌%◌, ◌<◌, eqb, true, cond, List, [], ◌∷◌, map, length, refl, sym, ap, subst, arith, eq-eqb, ne_eqb}
use Rattle.std.proofs.Common.{bit_or, bit_and}
use mathlib.Core.Option.{some, some-ne-none}
use lib.ListN.{get_elem?}
use Rattle.std.specs.Int.Bits.{or_add_and}
use Rattle.std.proofs.lemmas.Nat.{and_mask}
use Rattle.histories.specs.declared.record.LogItem.TheVariants.{Given, Noted}
use Rattle.histories.specs.Records.{recorded, records, of, given}
use Rattle.turn_table.specs.Lists.{IsBeginning, list_at, list_put}

module _ {A : Type 0} where
  pub list_at-put_same : (xs : List (List A)) (k : ℕ) (h : List A) → list_at (list_put xs k h) k ≡ h
  list_at-put_same [] zero h = refl
  list_at-put_same [] (suc k) h = list_at-put_same [] k h
  list_at-put_same (x ∷ xs) zero h = refl
  list_at-put_same (x ∷ xs) (suc k) h = list_at-put_same xs k h

  pub list_at-put_other : (xs : List (List A)) (j k : ℕ) (h : List A) → j ≢ k → list_at (list_put xs k h) j ≡ list_at xs j
  list_at-put_other [] zero zero h n = absurd (n refl)
  list_at-put_other [] zero (suc k) h n = refl
  list_at-put_other [] (suc j) zero h n = refl
  list_at-put_other [] (suc j) (suc k) h n = list_at-put_other [] j k h (λ e. n (ap suc e))
  list_at-put_other (x ∷ xs) zero zero h n = absurd (n refl)
  list_at-put_other (x ∷ xs) zero (suc k) h n = refl
  list_at-put_other (x ∷ xs) (suc j) zero h n = refl
  list_at-put_other (x ∷ xs) (suc j) (suc k) h n = list_at-put_other xs j k h (λ e. n (ap suc e))

  pub begins_all : (xs : List A) → IsBeginning xs xs
  begins_all [] = ([], refl)
  begins_all (x ∷ xs) = let t = begins_all xs in (t.0, ap (λ (l : List A). x ∷ l) t.1)

  pub at_below : (l : List A) (i : ℕ) (a : A) → get_elem? l i ≡ some a → i < length l
  at_below [] i a e = absurd (some-ne-none a (sym e))
  at_below (x ∷ xs) zero a e = omega arith
  at_below (x ∷ xs) (suc i) a e = let t = at_below xs i a e in omega arith

module _ {R : Type 0} where
  pub of-own : (j : ℕ) (rs : List R) → of j (map (recorded j) rs) ≡ rs
  of-own j [] = refl
  of-own j (r ∷ rs) = let e : eqb j j ≡ true = eq-eqb j j refl in subst (λ b. cond b (r ∷ of j (map (recorded j) rs)) (of j (map (recorded j) rs)) ≡ r ∷ rs) (sym e) (ap (λ (l : List R). r ∷ l) (of-own j rs))

  pub of-other : (j i : ℕ) (rs : List R) → i ≢ j → of j (map (recorded i) rs) ≡ []
  of-other j i [] n = refl
  of-other j i (r ∷ rs) n = subst (λ b. cond b (r ∷ of j (map (recorded i) rs)) (of j (map (recorded i) rs)) ≡ []) (sym (ne_eqb i j n)) (of-other j i rs n)

  pub records-own : (j : ℕ) (rs : List R) → records (map (recorded j) rs) ≡ rs
  records-own j [] = refl
  records-own j (r ∷ rs) = ap (λ (l : List R). r ∷ l) (records-own j rs)

module _ {R : Type 0} (N : Type 0) where
  pub given-own : (k : ℕ) (rs : List R) → given {N = N} k (map (Given k) rs) ≡ rs
  given-own k [] = refl
  given-own k (r ∷ rs) = subst (λ b. cond b (r ∷ given {N = N} k (map (Given k) rs)) (given {N = N} k (map (Given k) rs)) ≡ r ∷ rs) (sym (eq-eqb k k refl)) (ap (λ (l : List R). r ∷ l) (given-own k rs))

  pub given-other : (k i : ℕ) (rs : List R) → i ≢ k → given {N = N} k (map (Given i) rs) ≡ []
  given-other k i [] n = refl
  given-other k i (r ∷ rs) n = subst (λ b. cond b (r ∷ given {N = N} k (map (Given i) rs)) (given {N = N} k (map (Given i) rs)) ≡ []) (sym (ne_eqb i k n)) (given-other k i rs n)

  pub given-notes : (k : ℕ) (ns : List N) → given {R = R} k (map Noted ns) ≡ []
  given-notes k [] = refl
  given-notes k (n ∷ ns) = given-notes k ns

-- the word of a take
pub or_even : (n m : ℕ) → n ≡ 2 * m → bit_or n 1 ≡ n + 1
or_even n m e = let a = or_add_and n 1 in let b : bit_and n 1 ≡ n % 2 = and_mask n 1 in omega arith

pub or_odd : (n m : ℕ) → n ≡ 2 * m + 1 → bit_or n 1 ≡ n
or_odd n m e = let a = or_add_and n 1 in let b : bit_and n 1 ≡ n % 2 = and_mask n 1 in omega arith
