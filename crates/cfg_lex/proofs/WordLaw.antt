-- Words and numbers: the relation and the reading function agree.
use Rattle.std.proofs.Common.{◌≡◌, ℕ, suc, pos, ◌<◌, ◌≤◌, Bool, true, false, List, [], ◌∷◌, ◌++◌, length, take, drop, nat_le, refl, ap, ◌∙◌, inl, inr, arith, Option, Some, None, if◌then◌else◌}
use Rattle.std.specs.List.{prefix_len, list_all, AllByRecursion}
use Rattle.std.specs.Char.{is_ascii_digit, is_digit}
use Rattle.std.specs.Str.Parse.{digits_value, starts_with_minus}
use Rattle.std.proofs.lemmas.Bool.{cases_Bool}
use Rattle.std.proofs.lemmas.Bool.Decides.{nat_tests}
use Rattle.std.proofs.lemmas.List.{take_at, take-append-drop}
use Rattle.std.proofs.lemmas.List.Folds.{length-prefix_len}
use Rattle.pv_values.specs.Numbers.{in_range, number_in}
use Rattle.cfg_tree.specs.declared.token.Lexeme.TheVariants as lexeme
use Rattle.cfg_tree.specs.declared.token.Keyword as keyword
use Rattle.cfg_tree.specs.Variables.{begins_name, goes_on}
use Rattle.cfg_lex.specs.declared.shape.TokenShape.TheVariants as shape
use Rattle.cfg_lex.specs.Words.{keyword_of_word}
use Rattle.cfg_lex.specs.Numbers.{greatest_number}
use Rattle.cfg_lex.specs.Shapes.{bad, word_shape, word_token_at, number_token_at, ordinary_at, lexeme_of}
use Rattle.cfg_lex.specs.Tokens.{IsLongestRun, IsNamed, AreDigits, name, word, number, large_number}
use Rattle.cfg_lex.proofs.ReadLaw.{Reads, token, ReadsToken, same_fault}
use Rattle.cfg_lex.proofs.RunLaw.{run_is, run_taken}
use Rattle.cfg_lex.proofs.Bytewise.{differs, at_word, at_digit}

-- ---- words

pub word_reads : (fresh : Bool) (c : ℕ) (cs : List ℕ) → begins_name c ≡ true → Reads fresh (c ∷ cs) (word_token_at (c ∷ cs))
unfolding word_token_at lexeme_of
word_reads fresh c cs h = rw h (by_cases (keyword_of_word (c ∷ take (prefix_len goes_on cs) cs)) refl)
  where
    by_cases : (o : Option keyword.Keyword) → keyword_of_word (c ∷ take (prefix_len goes_on cs) cs) ≡ o →
        Reads fresh (c ∷ cs) (token (word_shape o) (suc (prefix_len goes_on cs)))
    by_cases None e = name (c ∷ take (prefix_len goes_on cs) cs) (drop (prefix_len goes_on cs) cs) (h, run_taken goes_on cs) e
    by_cases (Some k) e = word (c ∷ take (prefix_len goes_on cs) cs) (drop (prefix_len goes_on cs) cs) k (h, run_taken goes_on cs) e

word_again : (c : ℕ) (v rest : List ℕ) (o : Option keyword.Keyword) → begins_name c ≡ true → IsLongestRun goes_on v rest → keyword_of_word (c ∷ v) ≡ o →
    word_token_at (c ∷ v ++ rest) ≡ token (word_shape o) (length (c ∷ v))
unfolding word_token_at
word_again c v rest o h is e =
    let n = run_is goes_on v rest is in
    let t : take (length v) (v ++ rest) ≡ v = take_at v rest (length v) refl in
    rw (h, n, t, e) refl

name_text : (w rest : List ℕ) → lexeme_of (w ++ rest) shape.Name (length w) ≡ lexeme.Name w
unfolding lexeme_of
name_text w rest = ap (λ (xs : List ℕ). lexeme.Name xs) (take_at w rest (length w) refl)

word_text : (w rest : List ℕ) (k : keyword.Keyword) → lexeme_of (w ++ rest) (shape.Keyword k) (length w) ≡ lexeme.Keyword k
unfolding lexeme_of
word_text w rest k = refl

pub name_again : (fresh : Bool) (w rest : List ℕ) → IsNamed w rest → keyword_of_word w ≡ None → ReadsToken fresh (w ++ rest) w (lexeme.Name w)
name_again fresh [] rest is e = elim is [ ]
name_again fresh (c ∷ v) rest is e = record {
  shape = shape.Name;
  read = at_word fresh c (v ++ rest) is.0 ∙ word_again c v rest None is.0 is.1 e;
  lexeme = name_text (c ∷ v) rest;
}

pub keyword_again : (fresh : Bool) (w rest : List ℕ) (k : keyword.Keyword) → IsNamed w rest → keyword_of_word w ≡ Some k →
    ReadsToken fresh (w ++ rest) w (lexeme.Keyword k)
keyword_again fresh [] rest k is e = elim is [ ]
keyword_again fresh (c ∷ v) rest k is e = record {
  shape = shape.Keyword k;
  read = at_word fresh c (v ++ rest) is.0 ∙ word_again c v rest (Some k) is.0 is.1 e;
  lexeme = word_text (c ∷ v) rest k;
}

-- ---- numbers

digit_is : (c : ℕ) → is_ascii_digit c ≡ true → is_digit c 10 ≡ true
digit_is c h = grind (arith, nat_tests)

digits_are : (w : List ℕ) → AllByRecursion (λ b. is_ascii_digit b ≡ true) w → list_all (λ c. is_digit c 10) w ≡ true
digits_are [] a = refl
digits_are (c ∷ w) a = let h = digit_is c a.0 in rw h (digits_are w a.1)

range_is : (v : ℕ) → in_range (pos v) ≡ nat_le v greatest_number
range_is v = refl

-- what digits write
number_is : (w : List ℕ) → 0 < length w → AllByRecursion (λ b. is_ascii_digit b ≡ true) w →
    number_in w ≡ (if nat_le (digits_value 10 w) greatest_number then Some (pos (digits_value 10 w)) else None)
number_is [] some a = absurd (omega arith)
number_is (c ∷ w) some a =
    let minus : starts_with_minus (c ∷ w) ≡ false = differs is_ascii_digit c 45 a.0 refl in
    let all = digits_are (c ∷ w) a in
    rw (minus, all) refl

high_is : (v : ℕ) → nat_le v greatest_number ≡ false → greatest_number < v
high_is v h = grind (arith, nat_tests)

low_is : (v : ℕ) → nat_le v greatest_number ≡ true → v ≤ greatest_number
low_is v h = grind (arith, nat_tests)

is_low : (v : ℕ) → v ≤ greatest_number → nat_le v greatest_number ≡ true
is_low v h = grind (arith, nat_tests)

is_high : (v : ℕ) → greatest_number < v → nat_le v greatest_number ≡ false
is_high v h = grind (arith, nat_tests)

some_digit : (c : ℕ) (cs : List ℕ) → is_ascii_digit c ≡ true → 0 < prefix_len is_ascii_digit (c ∷ cs)
some_digit c cs h = rw h (omega arith)

pub number_reads : (fresh : Bool) (c : ℕ) (cs : List ℕ) → is_ascii_digit c ≡ true → Reads fresh (c ∷ cs) (number_token_at (c ∷ cs))
unfolding number_token_at lexeme_of
number_reads fresh c cs h = by_value (c ∷ cs) (some_digit c cs h)
  where
    by_value : (text : List ℕ) → 0 < prefix_len is_ascii_digit text → Reads fresh text (number_token_at text)
    by_value text some =
        let n = prefix_len is_ascii_digit text in
        let len = length-prefix_len is_ascii_digit text in
        let d : AreDigits (take n text) (drop n text) = (omega (arith, len, some), run_taken is_ascii_digit text) in
        let e = number_is (take n text) d.0 d.1.all in
        elim (cases_Bool (nat_le (digits_value 10 (take n text)) greatest_number)) [
          | inl t ↦ rw (e, t) (number (take n text) (drop n text) d (low_is _ t))
          | inr f ↦ rw (e, f) (same_fault fresh _ text 1 0 _ 0 n (large_number fresh (take n text) (drop n text) d (high_is _ f))
              (take-append-drop n text) refl len)
        ]

number_read : (w rest : List ℕ) → AreDigits w rest → digits_value 10 w ≤ greatest_number →
    number_token_at (w ++ rest) ≡ token (shape.Number (pos (digits_value 10 w))) (length w)
unfolding number_token_at
number_read w rest d low =
    let n = run_is is_ascii_digit w rest d.1 in
    let t : take (length w) (w ++ rest) ≡ w = take_at w rest (length w) refl in
    let e = number_is w d.0 d.1.all in
    let k = is_low _ low in
    rw (n, t, e, k) refl

number_text : (w rest : List ℕ) (v : ℕ) → lexeme_of (w ++ rest) (shape.Number (pos v)) (length w) ≡ lexeme.Number (pos v)
unfolding lexeme_of
number_text w rest v = refl

pub number_again : (fresh : Bool) (w rest : List ℕ) → AreDigits w rest → digits_value 10 w ≤ greatest_number →
    ReadsToken fresh (w ++ rest) w (lexeme.Number (pos (digits_value 10 w)))
number_again fresh [] rest d low = absurd (omega (arith, d.0))
number_again fresh (c ∷ w) rest d low = record {
  shape = shape.Number (pos (digits_value 10 (c ∷ w)));
  read = at_digit fresh c (w ++ rest) d.1.all.0 ∙ number_read (c ∷ w) rest d low;
  lexeme = number_text (c ∷ w) rest (digits_value 10 (c ∷ w));
}

large_read : (w rest : List ℕ) → AreDigits w rest → greatest_number < digits_value 10 w → number_token_at (w ++ rest) ≡ bad 0 (length w)
unfolding number_token_at
large_read w rest d high =
    let n = run_is is_ascii_digit w rest d.1 in
    let t : take (length w) (w ++ rest) ≡ w = take_at w rest (length w) refl in
    let e = number_is w d.0 d.1.all in
    let k = is_high _ high in
    rw (n, t, e, k) refl

pub large_again : (fresh : Bool) (w rest : List ℕ) → AreDigits w rest → greatest_number < digits_value 10 w →
    ordinary_at fresh (w ++ rest) ≡ bad 0 (length w)
large_again fresh [] rest d high = absurd (omega (arith, d.0))
large_again fresh (c ∷ w) rest d high = at_digit fresh c (w ++ rest) d.1.all.0 ∙ large_read (c ∷ w) rest d high
