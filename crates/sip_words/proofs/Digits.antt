-- Runs of digits, and their numbers.
use Rattle.std.proofs.Common.{◌≡◌, ℕ, ◌+◌, ◌-◌, ◌*◌, ◌<◌, true, List, length, take, drop, get_or, refl, sym, inl, inr, arith, Some}
use Rattle.std.proofs.lemmas.Bool.{cases_Bool, ltb-true}
use Rattle.std.proofs.lemmas.List.{take_more, get_or-take}
use Rattle.std.proofs.lemmas.List.Sums.{prefix_len_passes}
use Rattle.std.proofs.lemmas.List.Folds.{length-prefix_len}
use Rattle.std.proofs.lemmas.Int.Digits.{digits_value_push}
use Rattle.std.proofs.lemmas.Bool.Decides.{nat_tests}
use Rattle.std.specs.Prelude.{nat_lt}
use Rattle.std.specs.List.{prefix_len}
use Rattle.std.specs.Char.{IsAsciiDigit, digit_value}
use Rattle.std.specs.Str.Parse.{digits_value}
use Rattle.sip_words.specs.declared.bytes.Class.{Class}
use Rattle.sip_words.specs.declared.bytes.Class.TheVariants.{Digit}
use Rattle.sip_words.specs.Bytes.{has}
use Rattle.sip_words.specs.Words.{run_end, word_end}

-- the end of a word is the end of a run that has a byte
pub word_is : (class : Class) (text : List ℕ) (i end : ℕ) → word_end class text i ≡ Some end → (end ≡ run_end class text i) × (i < end)
word_is class text i end h = elim (cases_Bool (nat_lt i (run_end class text i))) [ inl t ↦ let e : run_end class text i ≡ end = grind (arith, rw t at h) in let lt : i < run_end class text i = ltb-true _ _ t in (sym e, omega arith) | inr t ↦ absurd (grind (arith, rw t at h)) ]

pub run_passes : (class : Class) (text : List ℕ) (i end k : ℕ) → word_end class text i ≡ Some end → k < length (take (end - i) (drop i text)) → has class (get_or (take (end - i) (drop i text)) k 0) ≡ true
unfolding run_end
run_passes class text i end k h lt =
    let w = word_is class text i end h in
    let n : end - i ≡ prefix_len (has class) (drop i text) = omega (arith, w.0) in
    let len : length (take (end - i) (drop i text)) ≡ prefix_len (has class) (drop i text) = rw n (length-prefix_len (has class) (drop i text)) in
    let below : k < prefix_len (has class) (drop i text) = omega arith in
    let below_n : k < end - i = omega arith in
    rw get_or-take (prefix_len_passes (has class) (drop i text) k 0 below)

digit_is : (b : ℕ) → has Digit b ≡ true → IsAsciiDigit b
unfolding has
digit_is b h = grind (arith, nat_tests)

pub digits_pass : (text : List ℕ) (i end k : ℕ) → word_end Digit text i ≡ Some end → k < length (take (end - i) (drop i text)) → IsAsciiDigit (get_or (take (end - i) (drop i text)) k 0)
digits_pass text i end k h lt = digit_is _ (run_passes Digit text i end k h lt)

value_is : (c : ℕ) → IsAsciiDigit c → digit_value c ≡ c - 48
value_is c h = grind (arith, nat_tests)

pub digits_more : (ds : List ℕ) (i : ℕ) → i < length ds → IsAsciiDigit (get_or ds i 0) → digits_value 10 (take (i + 1) ds) ≡ digits_value 10 (take i ds) * 10 + (get_or ds i 0 - 48)
digits_more ds i lt h =
    let e = take_more ds i 0 lt in
    let p = digits_value_push 10 (take i ds) (get_or ds i 0) in
    let v = value_is _ h in
    rw (e, p, v) refl
