-- A text names one branch at most.
use Rattle.std.proofs.Common.{◌≡◌, ◌≢◌, ℕ, ◌/◌, ◌%◌, ◌^◌, ◌<◌, ◌≤◌, List, [], ◌∷◌, ◌++◌, slice_index, inl, inr, refl, sym, ap, ◌∙◌, arith, Some}
use Rattle.std.specs.Prelude.{Option, None, Ok, IfSome, IfNone, codes, true, nat_lt, length}
use Rattle.std.specs.Fmt.{decimal}
use Rattle.std.specs.Int.{w32, to_be_bytes, from_be_bytes}
use Rattle.std.proofs.lemmas.Nat.{from_be_bytes-to_be_bytes_4}
use Rattle.hex.proofs.HexLemmas.{decode_of-encode_lower}
use Rattle.std.proofs.lemmas.Fmt.{decimal_injective}
use Rattle.std.proofs.lemmas.List.{append_cancel_left, get_or_past}
use Rattle.std.proofs.lemmas.List.Elements.{All-nil, All-cons, All-append, All-get_or}
use Rattle.std.proofs.lemmas.Bool.{and_parts, cases_lt, ltb-true}
use Rattle.std.specs.List.{list_all}
use Rattle.hex.specs.Hex.{encode_with, encode_lower, decode_of, lower_digits}
use Rattle.sip_keys.proofs.Bytes.{be_bytes}
use Rattle.sip_words.specs.Splits.{SplitsAt, Lacks}
use Rattle.numerals.proofs.Addresses.{only_split, not_split, split_one_way, decimal_lacks}
use Rattle.sip_keys.specs.declared.branch.Branch.{Branch}
use Rattle.sip_keys.specs.Branches.{branch_text, numbers_text, front_text, IsBranch}

no_dot : (n : ℕ) → n < 2 ^ 64 → Lacks 46 (decimal n)
no_dot n small = decimal_lacks 46 n small (λ h. omega arith)

wide : (n : ℕ) → n < 2 ^ 32 → n < 2 ^ 64
wide n h = omega arith

small : (n : ℕ) → n ≤ 11 → n < 2 ^ 64
small n h = omega arith

-- where the numbers are split at their first dot, and the rest at its first
pub slot_split : (text front back : List ℕ) (br : Branch) → SplitsAt 46 text front back → IsBranch br → text ≡ numbers_text br
    → (front ≡ decimal br.slot) × (back ≡ decimal br.generation ++ 46 ∷ decimal br.b)
unfolding numbers_text
slot_split text front back br s is e = only_split 46 text front back (decimal br.slot) _ s e (no_dot br.slot (wide br.slot is.slot))

pub generation_split : (text front back : List ℕ) (br : Branch) → SplitsAt 46 text front back → IsBranch br
    → text ≡ decimal br.generation ++ 46 ∷ decimal br.b → (front ≡ decimal br.generation) × (back ≡ decimal br.b)
generation_split text front back br s is e =
    only_split 46 text front back (decimal br.generation) (decimal br.b) s e (no_dot br.generation is.generation)

pub no_slot : (text : List ℕ) (br : Branch) → Lacks 46 text → text ≡ numbers_text br → ⊥
unfolding numbers_text
no_slot text br lacks e = not_split 46 text (decimal br.slot) _ lacks e

pub no_generation : (text : List ℕ) (br : Branch) → Lacks 46 text → text ≡ decimal br.generation ++ 46 ∷ decimal br.b → ⊥
no_generation text br lacks e = not_split 46 text (decimal br.generation) (decimal br.b) lacks e

pub numbers_are : (text front back gen b : List ℕ) (br : Branch) → SplitsAt 46 text front back → SplitsAt 46 back gen b
    → front ≡ decimal br.slot → gen ≡ decimal br.generation → b ≡ decimal br.b → text ≡ numbers_text br
unfolding numbers_text
numbers_are text front back gen b br s t e f g = s.whole ∙ rw (t.whole, e, f, g) refl

-- the numbers of a branch are those of no other
pub same_numbers : (a b : Branch) → IsBranch a → IsBranch b → numbers_text a ≡ numbers_text b → a ≡ b
unfolding numbers_text
same_numbers a b is is' e =
    let slots = split_one_way 46 (decimal a.slot) _ (decimal b.slot) _ e (no_dot a.slot (wide a.slot is.slot)) (no_dot b.slot (wide b.slot is'.slot)) in
    let rest = split_one_way 46 (decimal a.generation) (decimal a.b) (decimal b.generation) (decimal b.b) slots.1 (no_dot a.generation is.generation) (no_dot b.generation is'.generation) in
    let slot = decimal_injective a.slot b.slot (wide a.slot is.slot) (wide b.slot is'.slot) slots.0 in
    let generation = decimal_injective a.generation b.generation is.generation is'.generation rest.0 in
    let number = decimal_injective a.b b.b (small a.b is.b) (small b.b is'.b) rest.1 in
    made_same a.slot b.slot a.generation b.generation a.b b.b slot generation number
  where
    made : ℕ → ℕ → ℕ → Branch
    made s g n = record { slot = s; generation = g; b = n }

    made_same : (s s' g g' n n' : ℕ) → s ≡ s' → g ≡ g' → n ≡ n' → made s g n ≡ made s' g' n'
    made_same s s' g g' n n' p q r = rw (p, q, r) refl

-- hexadecimal digits are no dots
digits_lack : (t xs : List ℕ) → ((d : ℕ) → slice_index t d ≢ 46) → Lacks 46 (encode_with t xs)
unfolding encode_with
digits_lack t [] h = All-nil (λ b. b ≢ 46)
digits_lack t (x ∷ xs) h =
    All-cons (λ b. b ≢ 46) (slice_index t (x / 16)) (slice_index t (x % 16) ∷ encode_with t xs) (h (x / 16))
    (All-cons (λ b. b ≢ 46) (slice_index t (x % 16)) (encode_with t xs) (h (x % 16)) (digits_lack t xs h))

all_lack : (t : List ℕ) → Lacks 46 t → (d : ℕ) → slice_index t d ≢ 46
all_lack t h d = elim (cases_lt d (length t)) [
  | inl below ↦ All-get_or (λ b. b ≢ 46) t d 0 below h
  | inr past ↦ λ e. let nought = get_or_past t d 0 past in absurd (omega (arith, nought, e))
]

no_dots : (t : List ℕ) → list_all (λ b. nat_lt 46 b) t ≡ true → Lacks 46 t
no_dots [] h = All-nil (λ b. b ≢ 46)
no_dots (x ∷ xs) h =
    let parts = and_parts (nat_lt 46 x) (list_all (λ b. nat_lt 46 b) xs) h in
    let above = ltb-true 46 x parts.0 in All-cons (λ b. b ≢ 46) x xs (λ e. absurd (omega (arith, above, e))) (no_dots xs parts.1)

front_lacks : (epoch : ℕ) → Lacks 46 (front_text epoch)
front_lacks epoch =
    All-append (λ b. b ≢ 46) (codes "z9hG4bKrs") (encode_with lower_digits (to_be_bytes w32 epoch)) (no_dots (codes "z9hG4bKrs") refl)
    (digits_lack lower_digits (to_be_bytes w32 epoch) (all_lack lower_digits (no_dots lower_digits refl)))

-- where a text is split at its first dot
pub front_split : (epoch : ℕ) (text front numbers : List ℕ) (br : Branch) → SplitsAt 46 text front numbers → text ≡ branch_text epoch br
    → (front ≡ front_text epoch) × (numbers ≡ numbers_text br)
unfolding branch_text
front_split epoch text front numbers br split e = only_split 46 text front numbers (front_text epoch) (numbers_text br) split e (front_lacks epoch)

pub no_front : (epoch : ℕ) (text : List ℕ) (br : Branch) → Lacks 46 text → text ≡ branch_text epoch br → ⊥
unfolding branch_text
no_front epoch text br lacks e = not_split 46 text (front_text epoch) (numbers_text br) lacks e

pub text_is : (epoch : ℕ) (text front numbers : List ℕ) (br : Branch) → SplitsAt 46 text front numbers → front ≡ front_text epoch
    → numbers ≡ numbers_text br → text ≡ branch_text epoch br
unfolding branch_text
text_is epoch text front numbers br split e f = split.whole ∙ rw (e, f) refl

pub named_found : (epoch : ℕ) (text front numbers : List ℕ) (r : Option Branch) → SplitsAt 46 text front numbers → front ≡ front_text epoch
    → IfSome r (λ br. IsBranch br × (numbers ≡ numbers_text br)) → IfSome r (λ br. IsBranch br × (text ≡ branch_text epoch br))
named_found epoch text front numbers None split e h = tt
named_found epoch text front numbers (Some br) split e h = (h.0, text_is epoch text front numbers br split e h.1)

pub named_none : (epoch : ℕ) (text front numbers : List ℕ) (r : Option Branch) → SplitsAt 46 text front numbers
    → IfNone r ((br : Branch) → IsBranch br → numbers ≡ numbers_text br → ⊥) → IfNone r ((br : Branch) → IsBranch br → text ≡ branch_text epoch br → ⊥)
named_none epoch text front numbers None split h = λ br is e. h br is (front_split epoch text front numbers br split e).1
named_none epoch text front numbers (Some a) split h = tt

-- the text of a branch is that of no other
pub same_branch : (epoch : ℕ) (a b : Branch) → IsBranch a → IsBranch b → branch_text epoch a ≡ branch_text epoch b → a ≡ b
unfolding branch_text
same_branch epoch a b is is' e =
    let numbers = append_cancel_left (front_text epoch) (46 ∷ numbers_text a) (46 ∷ numbers_text b) e in
    let same : numbers_text a ≡ numbers_text b = cc in same_numbers a b is is' same

-- an answer with these two clauses is the only one
pub only_one : (epoch : ℕ) (text : List ℕ) (r : Option Branch) → IfSome r (λ br. IsBranch br × (text ≡ branch_text epoch br))
    → IfNone r ((br : Branch) → IsBranch br → text ≡ branch_text epoch br → ⊥)
    → (br : Branch) → IsBranch br → text ≡ branch_text epoch br → r ≡ Some br
only_one epoch text None found none br is e = absurd (none br is e)
only_one epoch text (Some a) found none br is e = ap Some (same_branch epoch a br found.0 is (sym found.1 ∙ e))

same_epoch : (epoch later : ℕ) → epoch < 2 ^ 32 → later < 2 ^ 32 → front_text epoch ≡ front_text later → epoch ≡ later
same_epoch epoch later l l' e =
    let hex = append_cancel_left (codes "z9hG4bKrs") (encode_lower (to_be_bytes w32 epoch)) (encode_lower (to_be_bytes w32 later)) e in
    let decoded : Ok (to_be_bytes w32 epoch) ≡ Ok (to_be_bytes w32 later) =
    sym (decode_of-encode_lower (to_be_bytes w32 epoch) (be_bytes epoch)) ∙ ap decode_of hex ∙ decode_of-encode_lower (to_be_bytes w32 later) (be_bytes later) in
    let bytes : to_be_bytes w32 epoch ≡ to_be_bytes w32 later = cc in
    sym (from_be_bytes-to_be_bytes_4 epoch l) ∙ ap (from_be_bytes w32) bytes ∙ from_be_bytes-to_be_bytes_4 later l'

pub one_name : (epoch later : ℕ) (one other : Branch) → epoch < 2 ^ 32 → later < 2 ^ 32 → IsBranch one → IsBranch other
    → branch_text epoch one ≡ branch_text later other → (epoch ≡ later) × (one ≡ other)
unfolding branch_text
one_name epoch later one other l l' is is' e =
    let parts = split_one_way 46 (front_text epoch) (numbers_text one) (front_text later) (numbers_text other) e (front_lacks epoch) (front_lacks later) in
    (same_epoch epoch later l l' parts.0, same_numbers one other is is' parts.1)
