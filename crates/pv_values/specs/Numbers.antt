-- The numbers that texts write.
use Rattle.std.specs.Prelude.{ℕ, ◌^◌, ℤ, pos, negsuc, neg_ℤ, int_le, Bool, false, ◌&&◌, nat_lt, List, [], ◌∷◌, Option, Some, None, if◌then◌else◌, drop}
use Rattle.std.specs.Char.{is_digit}
use Rattle.std.specs.List.{list_all}
use Rattle.std.specs.Str.Parse.{digits_value, starts_with_minus}

-- a number of 64 bits, with a sign
abbrev pub in_range : ℤ → Bool
in_range n = int_le (negsuc 9223372036854775807) n && int_le n (pos 9223372036854775807)

-- decimal digits, one or more
abbrev pub is_numeral : List ℕ → Bool
is_numeral [] = false
is_numeral (d ∷ ds) = list_all (λ c. is_digit c 10) (d ∷ ds)

-- the number that decimal digits write, where it has 64 bits at most
abbrev pub numeral : List ℕ → Option ℕ
numeral ds = if is_numeral ds && nat_lt (digits_value 10 ds) (2 ^ 64) then Some (digits_value 10 ds) else None

-- the number, where there are digits alone and it is within 64 bits
abbrev pub signed_numeral : List ℕ → ℤ → Option ℤ
signed_numeral ds n = if is_numeral ds && in_range n then Some n else None

-- the number of a text: an optional `-` and decimal digits, within 64 bits
abbrev pub number_in : List ℕ → Option ℤ
number_in text =
    if starts_with_minus text then signed_numeral (drop 1 text) (neg_ℤ (pos (digits_value 10 (drop 1 text))))
    else signed_numeral text (pos (digits_value 10 text))
