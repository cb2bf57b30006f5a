-- What stands behind the last SP.
use Rattle.std.proofs.Common.{◌≡◌, ℕ, ◌-◌, ◌<◌, ◌≤◌, ◌==◌, true, false, List, length, drop, get_or, reverse, refl, ap, ◌∙◌, arith}
use Rattle.std.specs.Prelude.{not}
use Rattle.std.specs.List.{after_last, suffix_len}
use Rattle.std.proofs.lemmas.List.{get_or-reverse, length-reverse}
use Rattle.std.proofs.lemmas.List.Sums.{prefix_len_is}
use Rattle.std.proofs.lemmas.Bool.{ne_eqb}

-- behind n there is no SP, and before n there is one or nothing
pub part_is : (line : List ℕ) (n : ℕ) → n ≤ length line → ((k : ℕ) → n ≤ k → k < length line → get_or line k 0 ≡ 32 → ⊥) → (0 < n → get_or line (n - 1) 0 ≡ 32) → after_last (λ b. b == 32) line ≡ drop n line
part_is line n le none one =
    let len = length-reverse line in
    let suffix : suffix_len (λ (b : ℕ). not (b == 32)) line ≡ length line - n =
    prefix_len_is (λ (b : ℕ). not (b == 32)) (reverse line) (length line - n) 0 (omega (arith, len)) (λ k lt. rw (get_or-reverse line k 0 (omega arith)) (passes (length line - 1 - k) (omega arith) (omega arith))) (λ lt. rw (get_or-reverse line (length line - n) 0 (omega (arith, len))) (stops (omega (arith, len)))) in
    ap (λ (m : ℕ). drop (length line - m) line) suffix ∙ ap (λ (m : ℕ). drop m line) (omega arith)
  where
    passes : (k : ℕ) → n ≤ k → k < length line → not (get_or line k 0 == 32) ≡ true
    passes k low high = rw (ne_eqb (get_or line k 0) 32 (none k low high)) refl

    stops : 0 < n → not (get_or line (length line - 1 - (length line - n)) 0 == 32) ≡ false
    stops lt = let k : length line - 1 - (length line - n) ≡ n - 1 = omega arith in rw (k, one lt) refl
