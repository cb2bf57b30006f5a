-- Bits in words.
use Rattle.std.proofs.Common.{◌≡◌, ◌≢◌, ◌↔◌, ◌⊎◌, ℕ, ◌+◌, ◌*◌, ◌/◌, ◌%◌, ◌^◌, ◌<◌, ◌≤◌, List, length, get_or, set, sym, ap, subst, inl, inr, ◌∙◌, ⊎_elim, arith, w64, bit_and, bit_or, get_or-set_same, get_or-set_other, refl}
use Rattle.std.proofs.lemmas.Bool.{cases_eq}
use Rattle.std.proofs.lemmas.List.{get_or_default, get_or_past}
use Rattle.std.specs.Int.{bit_at, bit_not, trailing_zeros}
use Rattle.std.proofs.lemmas.Nat.Bits.{bit_at_set_same, bit_at_set_other, bit_at_clear_same, bit_at_clear_other, bit_at-zero, bit_at-trailing_zeros}
use Rattle.std.proofs.lemmas.Bool.{cases_lt}
use Rattle.slot_lists.specs.Bits.{Has, AreLevels}

abbrev pub bit_of : List ℕ → ℕ → ℕ
bit_of words k = bit_at (get_or words (k / 64) 0) (k % 64)

abbrev pub with_bit : List ℕ → ℕ → ℕ → List ℕ
with_bit words k w = set words (k / 64) (bit_or w (1 * 2 ^ (k % 64) % 2 ^ 64))

abbrev pub without_bit : List ℕ → ℕ → ℕ → List ℕ
without_bit words k w = set words (k / 64) (bit_and w (bit_not w64 (1 * 2 ^ (k % 64) % 2 ^ 64)))

module _ (words : List ℕ) (k w : ℕ) (within : k / 64 < length words) (is : w ≡ get_or words (k / 64) w) where
  bound : k % 64 < 64
  bound = omega arith

  is_word : w ≡ get_or words (k / 64) 0
  is_word = is ∙ get_or_default words (k / 64) w 0 within

  other_place : (j : ℕ) → j ≢ k → j / 64 ≡ k / 64 → j % 64 ≢ k % 64
  other_place j n e f = n (omega arith)

  pub set_same : bit_of (with_bit words k w) k ≡ 1
  set_same = ap (λ x. bit_at x (k % 64)) (get_or-set_same words (k / 64) (bit_or w (1 * 2 ^ (k % 64) % 2 ^ 64)) 0 within) ∙ bit_at_set_same w64 w (k % 64) bound

  pub set_other : (j : ℕ) → j ≢ k → bit_of (with_bit words k w) j ≡ bit_of words j
  set_other j n = ⊎_elim
      (λ e. ap (λ x. bit_at x (j % 64)) (ap (λ y. get_or (with_bit words k w) y 0) e ∙ get_or-set_same words (k / 64) (bit_or w (1 * 2 ^ (k % 64) % 2 ^ 64)) 0 within)
      ∙ (bit_at_set_other w64 w (k % 64) bound (j % 64) (other_place j n e) ∙ ap (λ x. bit_at x (j % 64)) (is_word ∙ ap (λ y. get_or words y 0) (sym e))))
      (λ m. ap (λ x. bit_at x (j % 64)) (get_or-set_other words (k / 64) (j / 64) (bit_or w (1 * 2 ^ (k % 64) % 2 ^ 64)) 0 m))
      (cases_eq (j / 64) (k / 64))

  pub clear_same : bit_of (without_bit words k w) k ≡ 0
  clear_same = ap (λ x. bit_at x (k % 64)) (get_or-set_same words (k / 64) (bit_and w (bit_not w64 (1 * 2 ^ (k % 64) % 2 ^ 64))) 0 within) ∙ bit_at_clear_same w64 w (k % 64) bound

  pub clear_other : (j : ℕ) → j ≢ k → bit_of (without_bit words k w) j ≡ bit_of words j
  clear_other j n = ⊎_elim
      (λ e. ap (λ x. bit_at x (j % 64)) (ap (λ y. get_or (without_bit words k w) y 0) e ∙ get_or-set_same words (k / 64) (bit_and w (bit_not w64 (1 * 2 ^ (k % 64) % 2 ^ 64))) 0 within)
      ∙ (bit_at_clear_other w64 w (k % 64) bound (j % 64) (omega arith) (other_place j n e) ∙ ap (λ x. bit_at x (j % 64)) (is_word ∙ ap (λ y. get_or words y 0) (sym e))))
      (λ m. ap (λ x. bit_at x (j % 64)) (get_or-set_other words (k / 64) (j / 64) (bit_and w (bit_not w64 (1 * 2 ^ (k % 64) % 2 ^ 64))) 0 m))
      (cases_eq (j / 64) (k / 64))

  pub has_set : (j : ℕ) → Has (with_bit words k w) j ↔ ((j ≡ k) ⊎ Has words j)
  has_set j = (
    (λ h. ⊎_elim (λ e. inl e) (λ n. inr (sym (set_other j n) ∙ h)) (cases_eq j k)),
    λ c. ⊎_elim (λ e. ap (bit_of (with_bit words k w)) e ∙ set_same)
        (λ h. ⊎_elim (λ e. ap (bit_of (with_bit words k w)) e ∙ set_same) (λ n. set_other j n ∙ h) (cases_eq j k)) c,
  )

  pub has_clear : (j : ℕ) → Has (without_bit words k w) j ↔ ((j ≢ k) × Has words j)
  has_clear j = (
    (λ h. let n : j ≢ k = λ e. (let z = ap (bit_of (without_bit words k w)) e ∙ clear_same in omega arith) in (n, sym (clear_other j n) ∙ h)),
    λ c. clear_other j c.0 ∙ c.1,
  )

-- the bits of one word
module _ (words : List ℕ) (at w : ℕ) (is : w ≡ get_or words at 0) where
  in_word : (t : ℕ) → t < 64 → bit_of words (at * 64 + t) ≡ bit_at w t
  in_word t l = let q : (at * 64 + t) / 64 ≡ at = omega arith in let r : (at * 64 + t) % 64 ≡ t = omega arith in
      ap (λ x. bit_at (get_or words x 0) ((at * 64 + t) % 64)) q ∙ (ap (λ x. bit_at (get_or words at 0) x) r ∙ ap (λ x. bit_at x t) (sym is))

  pub no_bit : w ≡ 0 → (t : ℕ) → t < 64 → ¬ Has words (at * 64 + t)
  no_bit z t l h = let e = sym (in_word t l) ∙ h in let f = ap (λ x. bit_at x t) z ∙ bit_at-zero t in omega arith

  module _ (fits : w < 2 ^ 64) (some : w ≢ 0) where
    bits_of : (trailing_zeros w64 w < 64) × (bit_at w (trailing_zeros w64 w) ≡ 1) × ((i : ℕ) → i < trailing_zeros w64 w → bit_at w i ≡ 0)
    bits_of = bit_at-trailing_zeros w64 w (omega arith) fits

    pub few : trailing_zeros w64 w < 64
    few = bits_of.0

    pub has_lowest : Has words (at * 64 + trailing_zeros w64 w)
    has_lowest = in_word (trailing_zeros w64 w) bits_of.0 ∙ bits_of.1

    pub is_lowest : (t : ℕ) → t < 64 → Has words (at * 64 + t) → trailing_zeros w64 w ≤ t
    is_lowest t l h = ⊎_elim (λ m. absurd (let e = sym (in_word t l) ∙ h in let f = bits_of.2 t m in omega arith)) (λ m. m) (cases_lt t (trailing_zeros w64 w))

  pub zero_without : w < 2 ^ 64 → ((t : ℕ) → t < 64 → ¬ Has words (at * 64 + t)) → w ≡ 0
  zero_without fits none = ⊎_elim (λ e. e) (λ n. absurd (none (trailing_zeros w64 w) (few fits n) (has_lowest fits n))) (cases_eq w 0)

-- a bit in its word
pub split : (words : List ℕ) (k : ℕ) → Has words k → Has words (k / 64 * 64 + k % 64)
split words k h = let e : k / 64 * 64 + k % 64 ≡ k = omega arith in ap (bit_of words) e ∙ h

-- a bit that is there is within the words
pub within_words : (words : List ℕ) (k : ℕ) → Has words k → k / 64 < length words
within_words words k h = ⊎_elim (λ l. l) (λ l. absurd (let z = ap (λ x. bit_at x (k % 64)) (get_or_past words (k / 64) 0 l) ∙ bit_at-zero (k % 64) in omega arith)) (cases_lt (k / 64) (length words))

-- the lowest bit, where the words before its own have none
module _ (words : List ℕ) (at w : ℕ) (is : w ≡ get_or words at 0) (fits : w < 2 ^ 64) (some : w ≢ 0) (none : (j : ℕ) → j < at → get_or words j 0 ≡ 0) where
  pub least : (k : ℕ) → Has words k → at * 64 + trailing_zeros w64 w ≤ k
  least k h = let f = few words at w is fits some in ⊎_elim
      (λ m. absurd (no_bit words (k / 64) 0 (sym (none (k / 64) m)) refl (k % 64) (omega arith) (split words k h)))
      (λ m. ⊎_elim
      (λ e. let g = is_lowest words at w is fits some (k % 64) (omega arith) (subst (λ x. Has words (x * 64 + k % 64)) e (split words k h)) in omega arith)
      (λ n. omega arith) (cases_eq (k / 64) at))
      (cases_lt (k / 64) at)

pub none_at_all : (words : List ℕ) → ((j : ℕ) → j < length words → get_or words j 0 ≡ 0) → (k : ℕ) → ¬ Has words k
none_at_all words none k h = no_bit words (k / 64) 0 (sym (none (k / 64) (within_words words k h))) refl (k % 64) (omega arith) (split words k h)

-- the two levels after a bit was set
pub levels_set : (lower upper lower' upper' : List ℕ) (k : ℕ) → AreLevels lower upper → length lower' ≡ length lower → length upper' ≡ length upper
    → ((j : ℕ) → Has lower' j ↔ ((j ≡ k) ⊎ Has lower j)) → ((j : ℕ) → Has upper' j ↔ ((j ≡ k / 64) ⊎ Has upper j)) → AreLevels lower' upper'
levels_set lower upper lower' upper' k L el eu sl su = record {
  room = let r = L.room in omega arith;
  told = λ j. (
    (λ h. ⊎_elim
        (λ e. (k % 64, omega arith, (sl (j * 64 + k % 64)).1 (inl (omega arith))))
        (λ o. let b = (L.told j).0 o in (b.0, b.1, (sl (j * 64 + b.0)).1 (inr b.2)))
        ((su j).0 h)),
    λ b. (su j).1 (⊎_elim (λ e. inl (let l = b.1 in omega arith)) (λ o. inr ((L.told j).1 (b.0, b.1, o))) ((sl (j * 64 + b.0)).0 b.2)),
  );
}

-- after a bit was cleared in a word that has another bit
pub levels_clear_some : (lower upper lower' : List ℕ) (k : ℕ) → AreLevels lower upper → length lower' ≡ length lower
    → ((j : ℕ) → Has lower' j ↔ ((j ≢ k) × Has lower j)) → (t : ℕ) → t < 64 → Has lower' (k / 64 * 64 + t) → AreLevels lower' upper
levels_clear_some lower upper lower' k L el sl t t_lt h = record {
  room = let r = L.room in omega arith;
  told = λ j. (
    (λ o. ⊎_elim
        (λ e. (t, t_lt, subst (λ x. Has lower' (x * 64 + t)) (sym e) h))
        (λ n. let b = (L.told j).0 o in (b.0, b.1, (sl (j * 64 + b.0)).1 ((λ e. n (let l = b.1 in omega arith)), b.2)))
        (cases_eq j (k / 64))),
    λ b. (L.told j).1 (b.0, b.1, ((sl (j * 64 + b.0)).0 b.2).1),
  );
}

-- after the last bit of a word was cleared
pub levels_clear_last : (lower upper lower' upper' : List ℕ) (k : ℕ) → AreLevels lower upper → length lower' ≡ length lower → length upper' ≡ length upper
    → ((j : ℕ) → Has lower' j ↔ ((j ≢ k) × Has lower j)) → ((t : ℕ) → t < 64 → ¬ Has lower' (k / 64 * 64 + t))
    → ((j : ℕ) → Has upper' j ↔ ((j ≢ k / 64) × Has upper j)) → AreLevels lower' upper'
levels_clear_last lower upper lower' upper' k L el eu sl none su = record {
  room = let r = L.room in omega arith;
  told = λ j. (
    (λ h. let o = (su j).0 h in let b = (L.told j).0 o.1 in (b.0, b.1, (sl (j * 64 + b.0)).1 ((λ e. o.0 (let l = b.1 in omega arith)), b.2))),
    λ b. (su j).1 ((λ e. none b.0 b.1 (subst (λ x. Has lower' (x * 64 + b.0)) e b.2)), (L.told j).1 (b.0, b.1, ((sl (j * 64 + b.0)).0 b.2).1)),
  );
}

-- the lowest bit of the lowest word that has one
pub lowest_of_levels : (lower upper : List ℕ) (word low : ℕ) → AreLevels lower upper → ((j : ℕ) → Has upper j → word ≤ j) → low < 64
    → ((t : ℕ) → t < 64 → Has lower (word * 64 + t) → low ≤ t) → (k : ℕ) → Has lower k → word * 64 + low ≤ k
lowest_of_levels lower upper word low L least l in_it k h =
    let w = least (k / 64) ((L.told (k / 64)).1 (k % 64, omega arith, split lower k h)) in ⊎_elim
    (λ e. let g = in_it (k % 64) (omega arith) (subst (λ x. Has lower (x * 64 + k % 64)) e (split lower k h)) in omega arith)
    (λ n. omega arith) (cases_eq (k / 64) word)

pub none_of_levels : (lower upper : List ℕ) → AreLevels lower upper → ((j : ℕ) → ¬ Has upper j) → (k : ℕ) → ¬ Has lower k
none_of_levels lower upper L none k h = none (k / 64) ((L.told (k / 64)).1 (k % 64, omega arith, split lower k h))
