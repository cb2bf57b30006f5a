-- Decimal numbers.
use Rattle.std.specs.Prelude.{ℕ}

-- the greatest number that a script writes
abbrev pub greatest_number : ℕ
greatest_number = 9223372036854775807
