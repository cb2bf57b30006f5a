-- Numbers in decimal digits.
use Rattle.std.specs.Prelude.{ℕ, ◌-◌, List, Option, Some, None, nat_lt, if◌then◌else◌, slice_range}
use Rattle.std.specs.Str.Parse.{digits_value}
use Rattle.sip_words.specs.declared.bytes.Class.TheVariants.{Digit}
use Rattle.sip_words.specs.Words.{◌>>=◌, word_end}

-- the number of a run of at most so many digits, and its end
unfoldable pub number_at : ℕ → List ℕ → ℕ → Option (ℕ × ℕ)
number_at most text i = do
  end ← word_end Digit text i
  if nat_lt most (end - i) then None else Some (digits_value 10 (slice_range text i end), end)
