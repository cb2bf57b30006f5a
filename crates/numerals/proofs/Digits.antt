-- A word of digits that begins as a number does is what `decimal` writes of its value.
use Rattle.std.proofs.Common.{◌≡◌, ◌≢◌, ℕ, zero, suc, ◌^◌, ◌<◌, List, Bool, true, false, length, get_or, refl, sym, ap, ◌∙◌, arith, Ok, Err}
use Rattle.std.specs.Prelude.{Result, codes, IfSome, IfNone}
use Rattle.std.specs.Result.{result_ok}
use Rattle.std.specs.Fmt.{decimal}
use Rattle.std.specs.Str.{bytes_eq, IsUtf8}
use Rattle.std.specs.Str.Parse.{ParsesUnsigned, AllDigits, digits_value}
use Rattle.std.proofs.lemmas.Str.Parse.{IsNumeralModel, numerals_by_value, tells_digits, parse_plain}
use Rattle.std.proofs.lemmas.Fmt.{decimal-digits_value, decimal_digit, parse-decimal, decimal_injective, first_decimal, IsAscii-decimal}
use Rattle.std.proofs.lemmas.Str.{IsUtf8-from_ascii}
use Rattle.std.proofs.Math.Bool.{or-true as or_true}
use Rattle.std.proofs.lemmas.Slice.Eq.{bytes_eq-Decides}
use Rattle.std.proofs.lemmas.Bool.{lt-ltb, ltb-true, both_ways}
use Rattle.numerals.specs.Numerals.{begins_number, IsNumber}

own : IsNumeralModel (AllDigits 10) (digits_value 10)
own = numerals_by_value (AllDigits 10) tells_digits

-- how a number's word begins
data Begins (word : List ℕ) : Type 0 where
  nought : word ≡ codes "0" → Begins word
  above : 48 < get_or word 0 0 → Begins word

begins_by : (word : List ℕ) → begins_number word ≡ true → Begins word
begins_by word h = by_cases (bytes_eq word (codes "0")) refl
  where
    by_cases : (b : Bool) → bytes_eq word (codes "0") ≡ b → Begins word
    by_cases true e = nought ((bytes_eq-Decides word (codes "0")).0 e)
    by_cases false e = above (ltb-true 48 (get_or word 0 0) (rw e at h))

no_plus : (word : List ℕ) → Begins word → get_or word 0 0 ≢ 43
no_plus word (nought e) = rw e (λ h. absurd (omega arith))
no_plus word (above h) = λ e. omega arith

alone : (word : List ℕ) → Begins word → get_or word 0 0 ≡ 48 → length word ≡ 1
alone word (nought e) h = ap length e
alone word (above l) h = absurd (omega arith)

found : (E : Type 0) (word : List ℕ) (n : ℕ) → begins_number word ≡ true → ParsesUnsigned {E = E} 64 10 word (Ok n) → IsNumber word n
found E word n b p =
    let begun = begins_by word b in
    let parsed = parse_plain own {E = E} 64 word (Ok n) p (no_plus word begun) in
    let value : n ≡ digits_value 10 word = parsed.1 in
    let small : digits_value 10 word < 2 ^ 64 = parsed.0.2 in
    let same = decimal-digits_value own word parsed.0.0 parsed.0.1 (alone word begun) small in
    (rw value small, rw value (sym same))

begins : (word : List ℕ) (n : ℕ) → IsNumber word n → begins_number word ≡ true
begins word zero h = rw (h.1, decimal_digit 0 (omega arith)) refl
begins word (suc n) h =
    let first = first_decimal (suc n) (omega arith) h.0 in
    let above = lt-ltb 48 (get_or (decimal (suc n)) 0 0) first in
    rw (h.1, above) (or_true (bytes_eq (decimal (suc n)) (codes "0")))

parses : {E : Type 0} (word : List ℕ) (n : ℕ) (r : Result ℕ E) → IsNumber word n → ParsesUnsigned 64 10 word r → r ≡ Ok n
parses word n r h p = parse-decimal 64 n word r h.0 h.0 h.1 p

utf8 : (word : List ℕ) (n : ℕ) → IsNumber word n → IsUtf8 word
utf8 word n h = rw h.1 (IsUtf8-from_ascii (decimal n) (IsAscii-decimal n h.0))

-- what a parsed word says of the number, where it begins as one
pub parsed_found : {E : Type 0} (word : List ℕ) (r : Result ℕ E) → begins_number word ≡ true → ParsesUnsigned {E = E} 64 10 word r → IfSome (result_ok r) (IsNumber word)
parsed_found {E} word (Ok n) b p = found E word n b p
parsed_found word (Err e) b p = tt

pub parsed_none : {E : Type 0} (word : List ℕ) (r : Result ℕ E) → ParsesUnsigned {E = E} 64 10 word r → IfNone (result_ok r) ((n : ℕ) → IsNumber word n → ⊥)
parsed_none word (Ok n) p = tt
parsed_none {E} word (Err e) p = λ n h. let same : Err e ≡ Ok n = parses {E = E} word n (Err e) h p in absurd (cc)

pub not_begun : (word : List ℕ) → begins_number word ≡ false → (n : ℕ) → IsNumber word n → ⊥
not_begun word other n h = both_ways _ other (begins word n h)

-- a word that is no UTF-8 is no number
pub not_utf8 : (word : List ℕ) → ¬ IsUtf8 word → (n : ℕ) → IsNumber word n → ⊥
not_utf8 word other n h = other (utf8 word n h)

-- a word is one number at most
pub same_number : (word : List ℕ) (m n : ℕ) → IsNumber word m → n < 2 ^ 64 → word ≡ decimal n → m ≡ n
same_number word m n h small e = decimal_injective m n h.0 small (sym h.1 ∙ e)
