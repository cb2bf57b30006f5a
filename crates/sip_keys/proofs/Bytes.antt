-- The bytes of a number of 32 bits.
use Rattle.std.proofs.Common.{ℕ, zero, suc, ◌/◌, ◌%◌, ◌<◌, [], ◌∷◌, arith}
use Rattle.std.specs.Int.{w32, to_be_bytes}
use Rattle.hex.specs.Hex.{IsBytes}

four : (a b c d : ℕ) → a < 256 → b < 256 → c < 256 → d < 256 → IsBytes (a ∷ b ∷ c ∷ d ∷ [])
four a b c d la lb lc ld zero = la
four a b c d la lb lc ld (suc zero) = lb
four a b c d la lb lc ld (suc (suc zero)) = lc
four a b c d la lb lc ld (suc (suc (suc zero))) = ld
four a b c d la lb lc ld (suc (suc (suc (suc i)))) = omega arith

pub be_bytes : (n : ℕ) → IsBytes (to_be_bytes w32 n)
be_bytes n =
    four (n / 16777216 % 256) (n / 65536 % 256) (n / 256 % 256) (n % 256) (omega arith) (omega arith) (omega arith) (omega arith)
