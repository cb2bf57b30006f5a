-- A branch's text is a token.
use Rattle.std.proofs.Common.{◌≡◌, ℕ, suc, ◌+◌, ◌/◌, ◌%◌, ◌^◌, ◌<◌, ◌≤◌, true, List, [], ◌∷◌, ◌++◌, slice_index, refl, arith}
use Rattle.std.specs.Prelude.{codes, All}
use Rattle.std.specs.Fmt.{decimal}
use Rattle.std.specs.Int.{w32, to_be_bytes}
use Rattle.std.specs.List.{list_all}
use Rattle.std.proofs.lemmas.Fmt.{decimal_by_steps}
use Rattle.std.proofs.lemmas.Bool.{and_parts, le-leb}
use Rattle.std.proofs.lemmas.List.Elements.{All-nil, All-cons, All-append, All-get_or, recursion_from_All}
use Rattle.hex.specs.Hex.{encode_with, lower_digits}
use Rattle.sip_keys.proofs.Bytes.{be_bytes}
use Rattle.sip_words.specs.declared.bytes.Class.TheVariants.{Token}
use Rattle.sip_words.specs.Bytes.{has}
use Rattle.sip_words.specs.Grammar.{IsWord}
use Rattle.sip_keys.specs.declared.branch.Branch.{Branch}
use Rattle.sip_keys.specs.Branches.{branch_text, numbers_text, front_text, IsBranch}

abbrev IsTokenByte : ℕ → Type 0
IsTokenByte b = has Token b ≡ true

tested : (t : List ℕ) → list_all (has Token) t ≡ true → All IsTokenByte t
tested [] h = All-nil IsTokenByte
tested (x ∷ xs) h = let parts = and_parts (has Token x) (list_all (has Token) xs) h in All-cons IsTokenByte x xs parts.0 (tested xs parts.1)

digit_is : (d : ℕ) → d < 10 → has Token (48 + d) ≡ true
unfolding has
digit_is d lt =
    let low = le-leb 48 (48 + d) (omega arith) in
    let high = le-leb (48 + d) 57 (omega arith) in rw (low, high) refl

decimal_is : (n : ℕ) → n < 2 ^ 64 → All IsTokenByte (decimal n)
decimal_is = decimal_by_steps (λ m ds. All IsTokenByte ds) (λ m l. All-cons IsTokenByte (48 + m) [] (digit_is m l) (All-nil IsTokenByte))
    (λ m ds l h. All-append IsTokenByte ds ((48 + m % 10) ∷ []) h (All-cons IsTokenByte (48 + m % 10) [] (digit_is (m % 10) (omega arith)) (All-nil IsTokenByte)))

hex_digit : (d : ℕ) → d < 16 → has Token (slice_index lower_digits d) ≡ true
unfolding has
hex_digit d lt = All-get_or IsTokenByte lower_digits d 0 lt (tested lower_digits refl)

hex_is : (xs : List ℕ) → ((i : ℕ) → slice_index xs i < 256) → All IsTokenByte (encode_with lower_digits xs)
unfolding encode_with
hex_is [] h = All-nil IsTokenByte
hex_is (x ∷ xs) h =
    let small : x < 256 = h 0 in
    All-cons IsTokenByte (slice_index lower_digits (x / 16)) (slice_index lower_digits (x % 16) ∷ encode_with lower_digits xs) (hex_digit (x / 16) (omega (arith, small)))
    (All-cons IsTokenByte (slice_index lower_digits (x % 16)) (encode_with lower_digits xs) (hex_digit (x % 16) (omega arith)) (hex_is xs (λ i. h (suc i))))

wide : (n : ℕ) → n < 2 ^ 32 → n < 2 ^ 64
wide n h = omega arith

small : (n : ℕ) → n ≤ 11 → n < 2 ^ 64
small n h = omega arith

dotted : (xs : List ℕ) → All IsTokenByte xs → All IsTokenByte (46 ∷ xs)
unfolding has
dotted xs h = All-cons IsTokenByte 46 xs refl h

front_is : (epoch : ℕ) → All IsTokenByte (front_text epoch)
unfolding has
front_is epoch =
    All-append IsTokenByte (codes "z9hG4bKrs") (encode_with lower_digits (to_be_bytes w32 epoch)) (tested (codes "z9hG4bKrs") refl)
    (hex_is (to_be_bytes w32 epoch) (be_bytes epoch))

numbers_are : (br : Branch) → IsBranch br → All IsTokenByte (numbers_text br)
unfolding numbers_text
numbers_are br is =
    let b = dotted (decimal br.b) (decimal_is br.b (small br.b is.b)) in
    let generation = All-append IsTokenByte (decimal br.generation) (46 ∷ decimal br.b) (decimal_is br.generation is.generation) b in
    All-append IsTokenByte (decimal br.slot) (46 ∷ (decimal br.generation ++ 46 ∷ decimal br.b)) (decimal_is br.slot (wide br.slot is.slot))
    (dotted (decimal br.generation ++ 46 ∷ decimal br.b) generation)

pub is_token : (epoch : ℕ) (br : Branch) → IsBranch br → IsWord Token (branch_text epoch br)
unfolding branch_text
is_token epoch br is = record {
  some = omega arith;
  all = recursion_from_All IsTokenByte (branch_text epoch br)
      (All-append IsTokenByte (front_text epoch) (46 ∷ numbers_text br) (front_is epoch) (dotted (numbers_text br) (numbers_are br is)));
}
