-- The rules for values.
use Rattle.std.specs.Prelude.{ℕ, ℤ, pos, ◌+ℤ◌, ◌-ℤ◌, ◌*ℤ◌, int_lt, int_le, int_div, int_rem, Bool, true, false, not, nat_le, List, [], ◌∷◌, ◌++◌, length, Option, Some, None, if◌then◌else◌, codes}
use Rattle.std.specs.Ordering.{int_eq}
use Rattle.std.specs.Fmt.{signed_decimal}
use Rattle.std.specs.Str.{bytes_eq}
use Rattle.pv_values.specs.declared.value.Val.{Val}
use Rattle.pv_values.specs.declared.value.Val.TheVariants.{Null, Int, Text}
use Rattle.pv_values.specs.declared.operator.BinOp.{BinOp}
use Rattle.pv_values.specs.declared.operator.BinOp.TheVariants.{Add, Sub, Mul, Div, Rem, Eq, Ne, Lt, Gt, Le, Ge}
use Rattle.pv_values.specs.declared.run.HostAnswer.{HostAnswer}
use Rattle.pv_values.specs.declared.run.HostAnswer.TheVariants.{Start, Value, Written, Code}
use Rattle.pv_values.specs.Numbers.{in_range, number_in}

-- the number of a value
abbrev pub number_of : Val → Option ℤ
number_of Null = None
number_of (Int n) = Some n
number_of (Text t) = number_in t

-- the text of a value
abbrev pub text_of : Val → List ℕ
text_of Null = codes "<null>"
text_of (Int n) = signed_decimal n
text_of (Text t) = t

-- the truth of a value
abbrev pub is_true : Val → Bool
is_true Null = false
is_true (Int n) = not (int_eq n (pos 0))
is_true (Text []) = false
is_true (Text (b ∷ bs)) = true

-- a text as a value: one above 8,192 bytes is Null
abbrev pub limited : List ℕ → Val
limited t = if nat_le (length t) 8192 then Text t else Null

-- a number as a value: one that passes 64 bits is Null
abbrev pub kept : ℤ → Val
kept n = if in_range n then Int n else Null

-- 1 or 0
abbrev pub bit : Bool → Val
bit b = if b then Int (pos 1) else Int (pos 0)

-- something of two numbers, or else this
abbrev pub of_both : {A : Type 0} → (ℤ → ℤ → A) → A → Option ℤ → Option ℤ → A
of_both f other (Some x) (Some y) = f x y
of_both f other (Some x) None = other
of_both f other None y = other

-- `+`: a number adds, a text joins, and Null stays Null
abbrev pub sum_of : Val → Val → Val
sum_of Null b = Null
sum_of (Int x) b = of_both (λ x y. kept (x +ℤ y)) Null (Some x) (number_of b)
sum_of (Text t) b = limited (t ++ text_of b)

-- `/` cuts toward zero, and there is none by zero
abbrev pub quotient : ℤ → ℤ → Val
quotient x y = if int_eq y (pos 0) then Null else kept (int_div x y)

-- `mod` has the sign of the left one, and there is none by zero
abbrev pub remainder : ℤ → ℤ → Val
remainder x y = if int_eq y (pos 0) then Null else kept (int_rem x y)

-- this is the number
abbrev pub is_number : ℤ → Option ℤ → Bool
is_number x (Some y) = int_eq x y
is_number x None = false

-- `==`
abbrev pub same : Val → Val → Bool
same Null Null = true
same Null (Int y) = false
same Null (Text t) = false
same (Int x) Null = false
same (Int x) (Int y) = int_eq x y
same (Int x) (Text t) = is_number x (number_in t)
same (Text s) Null = false
same (Text s) (Int y) = is_number y (number_in s)
same (Text s) (Text t) = bytes_eq s t

-- arithmetic of two numbers, and else Null
abbrev pub of_numbers : (ℤ → ℤ → Val) → Val → Val → Val
of_numbers f a b = of_both f Null (number_of a) (number_of b)

-- a comparison of two numbers, and else false
abbrev pub compared : (ℤ → ℤ → Bool) → Val → Val → Val
compared f a b = bit (of_both f false (number_of a) (number_of b))

-- what a binary operator gives
abbrev pub binary_value : BinOp → Val → Val → Val
binary_value Add a b = sum_of a b
binary_value Sub a b = of_numbers (λ x y. kept (x -ℤ y)) a b
binary_value Mul a b = of_numbers (λ x y. kept (x *ℤ y)) a b
binary_value Div a b = of_numbers quotient a b
binary_value Rem a b = of_numbers remainder a b
binary_value Eq a b = bit (same a b)
binary_value Ne a b = bit (not (same a b))
binary_value Lt a b = compared int_lt a b
binary_value Gt a b = compared int_lt b a
binary_value Le a b = compared int_le a b
binary_value Ge a b = compared int_le b a

-- what a prefix `-` gives: 0 without the value's number
abbrev pub negated : Val → Val
negated = binary_value Sub (Int (pos 0))

-- what a `return` with this value returns: its number, or 1 where it has none
abbrev pub code_in : Option ℤ → ℤ
code_in (Some n) = n
code_in None = pos 1

abbrev pub code_of : Val → ℤ
code_of v = code_in (number_of v)

-- a value that is read, whoever answers it: a text above 8,192 bytes is Null
abbrev pub value_read : Val → Val
value_read Null = Null
value_read (Int n) = Int n
value_read (Text t) = limited t

-- an answer as a value, and as a code; one of another kind is Null, and 0
abbrev pub told_value : HostAnswer → Val
told_value Start = Null
told_value (Value v) = value_read v
told_value Written = Null
told_value (Code n) = Null

abbrev pub told_code : HostAnswer → ℤ
told_code Start = pos 0
told_code (Value v) = pos 0
told_code Written = pos 0
told_code (Code n) = n
