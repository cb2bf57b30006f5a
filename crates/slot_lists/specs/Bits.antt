-- Bits by number, in words of 64.
use Rattle.std.specs.Prelude.{◌≡◌, ◌↔◌, ℕ, ◌+◌, ◌*◌, ◌/◌, ◌%◌, ◌<◌, ◌≤◌, List, length, slice_index}
use Rattle.std.specs.Int.{bit_at}

-- the bit is one of these
abbrev pub Has : List ℕ → ℕ → Type 0
Has words bit = bit_at (slice_index words (bit / 64)) (bit % 64) ≡ 1

-- bit k of the upper words tells whether word k of the lower ones has a bit
pub record AreLevels (lower upper : List ℕ) : Type 0 where
  pub room : length lower ≤ 64 * length upper
  pub told : (word : ℕ) → Has upper word ↔ ((bit : ℕ) × (bit < 64) × Has lower (word * 64 + bit))
