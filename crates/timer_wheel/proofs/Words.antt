-- The bits that tell which lists have slots.
use Rattle.std.proofs.Common.{◌≡◌, ◌≢◌, ℕ, ◌*◌, ◌/◌, ◌%◌, ◌^◌, ◌<◌, List, length, get_or, set, sym, ap, ◌∙◌, ⊎_elim, arith, w64, bit_and, bit_or, get_or-set_same, get_or-set_other}
use Rattle.std.proofs.lemmas.Bool.{cases_eq}
use Rattle.std.proofs.lemmas.List.{get_or_default}
use Rattle.std.specs.Int.{bit_at, bit_not}
use Rattle.std.proofs.lemmas.Nat.Bits.{bit_at_set_same, bit_at_set_other, bit_at_clear_same, bit_at_clear_other}

abbrev pub bit_of : List ℕ → ℕ → ℕ
bit_of words k = bit_at (get_or words (k / 64) 0) (k % 64)

abbrev pub with_bit : List ℕ → ℕ → ℕ → List ℕ
with_bit words k w = set words (k / 64) (bit_or w (1 * 2 ^ (k % 64) % 2 ^ 64))

abbrev pub without_bit : List ℕ → ℕ → ℕ → List ℕ
without_bit words k w = set words (k / 64) (bit_and w (bit_not w64 (1 * 2 ^ (k % 64) % 2 ^ 64)))

module _ (words : List ℕ) (k w : ℕ) (within : k / 64 < length words) (is : w ≡ get_or words (k / 64) w) where
  bound : k % 64 < 64
  bound = omega arith

  is_word : w ≡ get_or words (k / 64) 0
  is_word = is ∙ get_or_default words (k / 64) w 0 within

  other_place : (j : ℕ) → j ≢ k → j / 64 ≡ k / 64 → j % 64 ≢ k % 64
  other_place j n e f = n (omega arith)

  pub set_same : bit_of (with_bit words k w) k ≡ 1
  set_same = ap (λ x. bit_at x (k % 64)) (get_or-set_same words (k / 64) (bit_or w (1 * 2 ^ (k % 64) % 2 ^ 64)) 0 within) ∙ bit_at_set_same w64 w (k % 64) bound

  pub set_other : (j : ℕ) → j ≢ k → bit_of (with_bit words k w) j ≡ bit_of words j
  set_other j n = ⊎_elim
      (λ e. ap (λ x. bit_at x (j % 64)) (ap (λ y. get_or (with_bit words k w) y 0) e ∙ get_or-set_same words (k / 64) (bit_or w (1 * 2 ^ (k % 64) % 2 ^ 64)) 0 within)
      ∙ (bit_at_set_other w64 w (k % 64) bound (j % 64) (other_place j n e) ∙ ap (λ x. bit_at x (j % 64)) (is_word ∙ ap (λ y. get_or words y 0) (sym e))))
      (λ m. ap (λ x. bit_at x (j % 64)) (get_or-set_other words (k / 64) (j / 64) (bit_or w (1 * 2 ^ (k % 64) % 2 ^ 64)) 0 m))
      (cases_eq (j / 64) (k / 64))

  pub clear_same : bit_of (without_bit words k w) k ≡ 0
  clear_same = ap (λ x. bit_at x (k % 64)) (get_or-set_same words (k / 64) (bit_and w (bit_not w64 (1 * 2 ^ (k % 64) % 2 ^ 64))) 0 within) ∙ bit_at_clear_same w64 w (k % 64) bound

  pub clear_other : (j : ℕ) → j ≢ k → bit_of (without_bit words k w) j ≡ bit_of words j
  clear_other j n = ⊎_elim
      (λ e. ap (λ x. bit_at x (j % 64)) (ap (λ y. get_or (without_bit words k w) y 0) e ∙ get_or-set_same words (k / 64) (bit_and w (bit_not w64 (1 * 2 ^ (k % 64) % 2 ^ 64))) 0 within)
      ∙ (bit_at_clear_other w64 w (k % 64) bound (j % 64) (omega arith) (other_place j n e) ∙ ap (λ x. bit_at x (j % 64)) (is_word ∙ ap (λ y. get_or words y 0) (sym e))))
      (λ m. ap (λ x. bit_at x (j % 64)) (get_or-set_other words (k / 64) (j / 64) (bit_and w (bit_not w64 (1 * 2 ^ (k % 64) % 2 ^ 64))) 0 m))
      (cases_eq (j / 64) (k / 64))
