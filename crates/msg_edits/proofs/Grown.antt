-- The text after one edit more.
use Rattle.std.proofs.Common.{◌≡◌, ◌≢◌, ℕ, ◌+◌, ◌-◌, ◌<◌, ◌≤◌, true, false, List, [], ◌∷◌, ◌++◌, length, take, drop, refl, sym, ap, ◌∙◌, arith, append_assoc, length-take, length-drop, inl, inr}
use Rattle.std.specs.Prelude.{if◌then◌else◌, slice_range}
use Rattle.std.proofs.lemmas.List.{append-nil, take_at, drop_at, take-append-drop, drop-drop}
use Rattle.std.proofs.lemmas.Bool.{ne_eqb, eq-eqb}
use Rattle.std.proofs.lemmas.Grind.{common_steps}
use Rattle.sip_words.specs.declared.Span.{Span}
use Rattle.msg_edits.specs.declared.parts.Edit.{Edit}
use Rattle.msg_edits.specs.declared.parts.Edit.TheVariants.{Cut, Insert}
use Rattle.msg_edits.specs.Edited.{has_byte, is_cut, inserted_at, edited_byte, edited_from, edited}
use Rattle.msg_edits.specs.Writing.{SameEdits}
use Rattle.msg_edits.specs.Laws.{LiesWithin, left_by_cut, IsElsewhere}
use Rattle.msg_edits.proofs.Steps.{inserted_push, cut_push}
use Rattle.msg_edits.proofs.Pieces.{from_append}

from_none : (i : ℕ) (bytes : List ℕ) → edited_from [] i bytes ≡ bytes
from_none i [] = refl
from_none i (b ∷ bytes) = ap (λ (t : List ℕ). b ∷ t) (from_none (i + 1) bytes)

pub edited_none : (text : List ℕ) → edited text [] ≡ text
unfolding edited
edited_none text = append-nil _ ∙ from_none 0 text

-- a byte at which two lists insert and cut alike
same_byte : (edits more : List Edit) (i b : ℕ) → inserted_at more i ≡ inserted_at edits i → is_cut more i ≡ is_cut edits i → edited_byte more (i, b) ≡ edited_byte edits (i, b)
same_byte edits more i b inserts cuts = rw (inserts, cuts) refl

pub same_bytes : (edits more : List Edit) (i : ℕ) (bytes : List ℕ) → ((k : ℕ) → i ≤ k → k < i + length bytes → inserted_at more k ≡ inserted_at edits k) → ((k : ℕ) → i ≤ k → k < i + length bytes → is_cut more k ≡ is_cut edits k) → edited_from more i bytes ≡ edited_from edits i bytes
same_bytes edits more i [] inserts cuts = refl
same_bytes edits more i (b ∷ bytes) inserts cuts =
    let here = same_byte edits more i b (inserts i (omega arith) (omega arith)) (cuts i (omega arith) (omega arith)) in
    let rest = same_bytes edits more (i + 1) bytes (λ k low high. inserts k (omega arith) (omega arith)) (λ k low high. cuts k (omega arith) (omega arith)) in
    rw (here, rest) refl

-- two lists that insert and cut alike everywhere make the same of every text
pub same_from : (xs ys : List Edit) → SameEdits xs ys → (i : ℕ) (bytes : List ℕ) → edited_from xs i bytes ≡ edited_from ys i bytes
same_from xs ys h i bytes = same_bytes ys xs i bytes (λ k low high. h.inserts k) (λ k low high. h.cuts k)

pub same_edited : (xs ys : List Edit) → SameEdits xs ys → (text : List ℕ) → edited text xs ≡ edited text ys
unfolding edited
same_edited xs ys h text = rw (same_from xs ys h 0 text, h.inserts (length text)) refl

-- an insert changes nothing elsewhere
pub insert_elsewhere : (edits : List Edit) (place k : ℕ) (new : List ℕ) → place ≢ k → inserted_at (edits ++ Insert place new ∷ []) k ≡ inserted_at edits k
insert_elsewhere edits place k new ne = let off = ne_eqb place k ne in inserted_push edits (Insert place new) k ∙ rw off (append-nil _)

pub insert_here : (edits : List Edit) (place : ℕ) (new : List ℕ) → inserted_at (edits ++ Insert place new ∷ []) place ≡ inserted_at edits place ++ new
insert_here edits place new = let on = eq-eqb place place refl in inserted_push edits (Insert place new) place ∙ rw on refl

pub insert_cuts : (edits : List Edit) (place k : ℕ) (new : List ℕ) → is_cut (edits ++ Insert place new ∷ []) k ≡ is_cut edits k
insert_cuts edits place k new = cut_push edits (Insert place new) k ∙ grind (arith, common_steps)

-- what stands behind the inserts at place i
behind : List Edit → ℕ → List ℕ → List ℕ
behind edits i [] = []
behind edits i (b ∷ bytes) = (if is_cut edits i then [] else b ∷ []) ++ (edited_from edits (i + 1) bytes ++ inserted_at edits (i + 1 + length bytes))

tail_is : (edits : List Edit) (i n : ℕ) (bytes : List ℕ) → i + length bytes ≡ n → edited_from edits i bytes ++ inserted_at edits n ≡ inserted_at edits i ++ behind edits i bytes
unfolding behind
tail_is edits i n [] len = let n_is : n ≡ i = omega arith in rw n_is (sym (append-nil (inserted_at edits i)))
tail_is edits i n (b ∷ bytes) len = let n_is : n ≡ i + 1 + length bytes = omega arith in rw n_is (simp append_assoc)

behind_same : (edits : List Edit) (i : ℕ) (new bytes : List ℕ) → behind (edits ++ Insert i new ∷ []) i bytes ≡ behind edits i bytes
unfolding behind
behind_same edits i new [] = refl
behind_same edits i new (b ∷ bytes) =
    let more = edits ++ Insert i new ∷ [] in
    let cut = insert_cuts edits i i new in
    let rest = same_bytes edits more (i + 1) bytes (λ k low high. insert_elsewhere edits i k new (omega arith)) (λ k low high. insert_cuts edits i k new) in
    let last = insert_elsewhere edits i (i + 1 + length bytes) new (omega arith) in
    rw (cut, rest, last) refl

-- the text before a place, and what is inserted there
before_place : (edits : List Edit) (text : List ℕ) (place : ℕ) → place ≤ length text → edited (take place text) edits ≡ edited_from edits 0 (take place text) ++ inserted_at edits place
unfolding edited
before_place edits text place le = let n : length (take place text) ≡ place = omega (arith, length-take place text) in rw n refl

-- the same, and what stands behind it
split_at : (edits : List Edit) (text : List ℕ) (place : ℕ) → place ≤ length text → edited text edits ≡ edited_from edits 0 (take place text) ++ (inserted_at edits place ++ behind edits place (drop place text))
unfolding edited
split_at edits text place le =
    let n : 0 + length (take place text) ≡ place = omega (arith, length-take place text) in
    let len : place + length (drop place text) ≡ length text = omega (arith, length-drop place text) in
    let parts = from_append edits 0 (take place text) (drop place text) in
    let whole : edited_from edits 0 text ≡ edited_from edits 0 (take place text) ++ edited_from edits place (drop place text) = ap (λ (t : List ℕ). edited_from edits 0 t) (sym (take-append-drop place text)) ∙ parts ∙ ap (λ (m : ℕ). edited_from edits 0 (take place text) ++ edited_from edits m (drop place text)) n in
    let tail = tail_is edits place (length text) (drop place text) len in
    rw whole (append_assoc (edited_from edits 0 (take place text)) (edited_from edits place (drop place text)) (inserted_at edits (length text)) ∙ ap (λ (t : List ℕ). edited_from edits 0 (take place text) ++ t) tail)

regroup : (a b c d : List ℕ) → a ++ ((b ++ c) ++ d) ≡ (a ++ b) ++ c ++ d
regroup a b c d = simp append_assoc

in_two : (a b c d : List ℕ) → take (length (a ++ b)) (a ++ (b ++ d)) ++ c ++ drop (length (a ++ b)) (a ++ (b ++ d)) ≡ (a ++ b) ++ c ++ d
in_two a b c d =
    let whole : a ++ (b ++ d) ≡ (a ++ b) ++ d = sym (append_assoc a b d) in
    let front = take_at (a ++ b) d (length (a ++ b)) refl in
    let back = drop_at (a ++ b) d (length (a ++ b)) refl in
    rw (whole, front, back) refl

pub insert_law : (text : List ℕ) (edits : List Edit) (place : ℕ) (new : List ℕ) → place ≤ length text → edited text (edits ++ Insert place new ∷ []) ≡ take (length (edited (take place text) edits)) (edited text edits) ++ new ++ drop (length (edited (take place text) edits)) (edited text edits)
insert_law text edits place new le =
    let more = edits ++ Insert place new ∷ [] in
    let front = edited_from edits 0 (take place text) in
    let same : edited_from more 0 (take place text) ≡ front = same_bytes edits more 0 (take place text) (λ k low high. insert_elsewhere edits place k new (omega (arith, length-take place text))) (λ k low high. insert_cuts edits place k new) in
    let now = split_at more text place le in
    let was = split_at edits text place le in
    let back = behind edits place (drop place text) in
    let after : edited text more ≡ front ++ ((inserted_at edits place ++ new) ++ back) = now ∙ rw (same, insert_here edits place new, behind_same edits place new (drop place text)) refl in
    after ∙ regroup front (inserted_at edits place) new back ∙ rw (before_place edits text place le, was) (sym (in_two front (inserted_at edits place) new back))

-- a cut changes no insert, and no byte elsewhere
pub cut_inserts : (edits : List Edit) (at : Span) (k : ℕ) → inserted_at (edits ++ Cut at ∷ []) k ≡ inserted_at edits k
cut_inserts edits at k = inserted_push edits (Cut at) k ∙ append-nil _

pub cut_elsewhere : (edits : List Edit) (at : Span) (k : ℕ) → has_byte at k ≡ false → is_cut (edits ++ Cut at ∷ []) k ≡ is_cut edits k
cut_elsewhere edits at k off = cut_push edits (Cut at) k ∙ grind (arith, common_steps)

cut_here : (edits : List Edit) (at : Span) (k : ℕ) → has_byte at k ≡ true → is_cut (edits ++ Cut at ∷ []) k ≡ true
cut_here edits at k on = cut_push edits (Cut at) k ∙ grind (arith, common_steps)

pub has_inside : (at : Span) (k : ℕ) → at.from ≤ k → k < at.to → has_byte at k ≡ true
has_inside at k low high = grind (arith, common_steps)

pub has_below : (at : Span) (k : ℕ) → k < at.from → has_byte at k ≡ false
has_below at k low = grind (arith, common_steps)

has_above : (at : Span) (k : ℕ) → at.to ≤ k → has_byte at k ≡ false
has_above at k high = grind (arith, common_steps)

all_left : (edits : List Edit) (at : Span) (i : ℕ) (bytes : List ℕ) → at.from ≤ i → i + length bytes ≤ at.to → edited_from (edits ++ Cut at ∷ []) i bytes ≡ left_by_cut edits i bytes
all_left edits at i [] low high = refl
all_left edits at i (b ∷ bytes) low high =
    let on = has_inside at i low (omega arith) in
    let rest = all_left edits at (i + 1) bytes (omega arith) (omega arith) in
    rw (cut_inserts edits at i, cut_here edits at i on, rest) (ap (λ (t : List ℕ). t ++ left_by_cut edits (i + 1) bytes) (append-nil (inserted_at edits i)))

grouped : (a b c d : List ℕ) → a ++ (b ++ c) ++ d ≡ a ++ b ++ (c ++ d)
grouped a b c d = simp append_assoc

-- a text in three parts
pub three_parts : (text : List ℕ) (edits : List Edit) (from to : ℕ) → from ≤ to → to ≤ length text → edited text edits ≡ edited_from edits 0 (take from text) ++ edited_from edits from (slice_range text from to) ++ (edited_from edits to (drop to text) ++ inserted_at edits (length text))
unfolding edited
three_parts text edits from to order end =
    let bytes = slice_range text from to in
    let rest : drop (to - from) (drop from text) ≡ drop to text = drop-drop (to - from) from text ∙ ap (λ (n : ℕ). drop n text) (omega arith) in
    let tail : drop from text ≡ bytes ++ drop to text = sym (take-append-drop (to - from) (drop from text)) ∙ ap (λ (t : List ℕ). bytes ++ t) rest in
    let whole : text ≡ take from text ++ (bytes ++ drop to text) = sym (take-append-drop from text) ∙ ap (λ (t : List ℕ). take from text ++ t) tail in
    let to_from : 0 + length (take from text) ≡ from = omega (arith, length-take from text) in
    let to_to : from + length bytes ≡ to = omega (arith, length-take (to - from) (drop from text), length-drop from text) in
    let two = from_append edits from bytes (drop to text) ∙ ap (λ (n : ℕ). edited_from edits from bytes ++ edited_from edits n (drop to text)) to_to in
    let three : edited_from edits 0 text ≡ edited_from edits 0 (take from text) ++ (edited_from edits from bytes ++ edited_from edits to (drop to text)) = ap (λ (t : List ℕ). edited_from edits 0 t) whole ∙ from_append edits 0 (take from text) (bytes ++ drop to text) ∙ ap (λ (n : ℕ). edited_from edits 0 (take from text) ++ edited_from edits n (bytes ++ drop to text)) to_from ∙ ap (λ (t : List ℕ). edited_from edits 0 (take from text) ++ t) two in
    rw three (grouped (edited_from edits 0 (take from text)) (edited_from edits from bytes) (edited_from edits to (drop to text)) (inserted_at edits (length text)))

pub cut_law : (text : List ℕ) (edits : List Edit) (at : Span) → LiesWithin text (Cut at) → edited text (edits ++ Cut at ∷ []) ≡ edited_from edits 0 (take at.from text) ++ left_by_cut edits at.from (slice_range text at.from at.to) ++ (edited_from edits at.to (drop at.to text) ++ inserted_at edits (length text))
cut_law text edits at within =
    let more = edits ++ Cut at ∷ [] in
    let bytes = slice_range text at.from at.to in
    let front : edited_from more 0 (take at.from text) ≡ edited_from edits 0 (take at.from text) = same_bytes edits more 0 (take at.from text) (λ k low high. cut_inserts edits at k) (λ k low high. cut_elsewhere edits at k (has_below at k (omega (arith, length-take at.from text)))) in
    let middle : edited_from more at.from bytes ≡ left_by_cut edits at.from bytes = all_left edits at at.from bytes (omega arith) (omega (arith, within, length-take (at.to - at.from) (drop at.from text), length-drop at.from text)) in
    let back : edited_from more at.to (drop at.to text) ≡ edited_from edits at.to (drop at.to text) = same_bytes edits more at.to (drop at.to text) (λ k low high. cut_inserts edits at k) (λ k low high. cut_elsewhere edits at k (has_above at k low)) in
    three_parts text more at.from at.to within.0 within.1 ∙ rw (front, middle, back, cut_inserts edits at (length text)) refl

left_none : (i : ℕ) (bytes : List ℕ) → left_by_cut [] i bytes ≡ []
left_none i [] = refl
left_none i (b ∷ bytes) = left_none (i + 1) bytes

one_cut : (text : List ℕ) (at : Span) → LiesWithin text (Cut at) → edited text (Cut at ∷ []) ≡ take at.from text ++ drop at.to text
one_cut text at within =
    cut_law text [] at within ∙ rw (from_none 0 (take at.from text), left_none at.from (slice_range text at.from at.to), from_none at.to (drop at.to text)) (simp append-nil)

below_cut : (text : List ℕ) (at : Span) → LiesWithin text (Cut at) → edited (take at.from text) (Cut at ∷ []) ≡ take at.from text
unfolding edited
below_cut text at within =
    let front = take at.from text in
    let same : edited_from (Cut at ∷ []) 0 front ≡ edited_from [] 0 front = same_bytes [] (Cut at ∷ []) 0 front (λ k low high. refl) (λ k low high. cut_elsewhere [] at k (has_below at k (omega (arith, length-take at.from text)))) in
    rw (same, from_none 0 front) (append-nil front)

pub replace_law : (text : List ℕ) (at : Span) (new : List ℕ) → LiesWithin text (Cut at) → edited text (Cut at ∷ Insert at.from new ∷ []) ≡ take at.from text ++ new ++ drop at.to text
replace_law text at new within =
    let front = take at.from text in
    let back = drop at.to text in
    insert_law text (Cut at ∷ []) at.from new (omega (arith, within)) ∙ rw (below_cut text at within, one_cut text at within, take_at front back (length front) refl, drop_at front back (length front) refl) refl

pub parts_law : (text : List ℕ) (edits : List Edit) (i : ℕ) → i ≤ length text → edited text edits ≡ edited_from edits 0 (take i text) ++ edited_from edits i (drop i text) ++ inserted_at edits (length text)
unfolding edited
parts_law text edits i le =
    let n : 0 + length (take i text) ≡ i = omega (arith, length-take i text) in
    let parts = from_append edits 0 (take i text) (drop i text) in
    let whole : edited_from edits 0 text ≡ edited_from edits 0 (take i text) ++ edited_from edits i (drop i text) = ap (λ (t : List ℕ). edited_from edits 0 t) (sym (take-append-drop i text)) ∙ parts ∙ ap (λ (m : ℕ). edited_from edits 0 (take i text) ++ edited_from edits m (drop i text)) n in
    ap (λ (t : List ℕ). t ++ inserted_at edits (length text)) whole

pub elsewhere_law : (edits : List Edit) (e : Edit) (i : ℕ) (bytes : List ℕ) → IsElsewhere i (i + length bytes) e → edited_from (edits ++ e ∷ []) i bytes ≡ edited_from edits i bytes
elsewhere_law edits (Cut at) i bytes (inl below) = same_bytes edits (edits ++ Cut at ∷ []) i bytes (λ k low high. cut_inserts edits at k) (λ k low high. cut_elsewhere edits at k (has_above at k (omega arith)))
elsewhere_law edits (Cut at) i bytes (inr above) = same_bytes edits (edits ++ Cut at ∷ []) i bytes (λ k low high. cut_inserts edits at k) (λ k low high. cut_elsewhere edits at k (has_below at k (omega arith)))
elsewhere_law edits (Insert place new) i bytes (inl below) = same_bytes edits (edits ++ Insert place new ∷ []) i bytes (λ k low high. insert_elsewhere edits place k new (omega arith)) (λ k low high. insert_cuts edits place k new)
elsewhere_law edits (Insert place new) i bytes (inr above) = same_bytes edits (edits ++ Insert place new ∷ []) i bytes (λ k low high. insert_elsewhere edits place k new (omega arith)) (λ k low high. insert_cuts edits place k new)
