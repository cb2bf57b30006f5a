-- How long an edited text is.
use Rattle.std.proofs.Common.{◌≡◌, ℕ, zero, suc, ◌+◌, ◌-◌, ◌<◌, ◌≤◌, false, List, [], ◌∷◌, ◌++◌, length, take, drop, get_or, refl, ap, ◌∙◌, inl, inr, arith, length-take, length-drop, length-append}
use Rattle.std.specs.Prelude.{slice_range, All}
use Rattle.std.specs.List.{sum_by}
use Rattle.std.proofs.lemmas.List.{take_all, take_more}
use Rattle.std.proofs.lemmas.Bool.{cases_Bool}
use Rattle.std.proofs.lemmas.List.Sums.{sum_by_push}
use Rattle.sip_words.specs.declared.Span.{Span}
use Rattle.msg_edits.specs.declared.parts.Edit.{Edit}
use Rattle.msg_edits.specs.declared.parts.Edit.TheVariants.{Cut, Insert}
use Rattle.msg_edits.specs.Edited.{is_cut, inserted_at, edited_from, edited}
use Rattle.msg_edits.specs.Causes.{MeetsCut}
use Rattle.msg_edits.specs.Laws.{LiesWithin, IsCutOnce, cut_length, insert_length, left_by_cut}
use Rattle.msg_edits.proofs.Grown.{edited_none, insert_law, cut_law, three_parts, has_inside}
use Rattle.msg_edits.proofs.Once.{once_take, last_apart}

-- bytes of which none is cut
kept_length : (edits : List Edit) (i : ℕ) (bytes : List ℕ) → ((k : ℕ) → i ≤ k → k < i + length bytes → is_cut edits k ≡ false) → length (edited_from edits i bytes) ≡ length (left_by_cut edits i bytes) + length bytes
kept_length edits i [] kept = refl
kept_length edits i (b ∷ bytes) kept =
    let here = kept i (omega arith) (omega arith) in
    let rest = kept_length edits (i + 1) bytes (λ k low high. kept k (omega arith) (omega arith)) in
    rw here (counted (inserted_at edits i) (b ∷ []) (edited_from edits (i + 1) bytes) (left_by_cut edits (i + 1) bytes) (length bytes) refl rest)
  where
    counted : (a b c d : List ℕ) (n : ℕ) → length b ≡ 1 → length c ≡ length d + n → length ((a ++ b) ++ c) ≡ length (a ++ d) + suc n
    counted a b c d n one h = omega (arith, length-append (a ++ b) c, length-append a b, length-append a d)

uncut : (edits : List Edit) (at : Span) (k : ℕ) → (MeetsCut edits at → ⊥) → at.from ≤ k → k < at.to → is_cut edits k ≡ false
uncut edits at k apart low high = elim (cases_Bool (is_cut edits k)) [ inl cut ↦ absurd (apart (k, has_inside at k low high, cut)) | inr kept ↦ kept ]

grown : (text : List ℕ) (edits : List Edit) (e : Edit) → LiesWithin text e → IsCutOnce (edits ++ e ∷ []) → length (edited text (edits ++ e ∷ [])) + cut_length e ≡ length (edited text edits) + insert_length e
grown text edits (Insert place new) within once =
    let old = edited text edits in
    let n = length (edited (take place text) edits) in
    let e = ap length (insert_law text edits place new within) in
    omega (arith, e, length-append (take n old ++ new) (drop n old), length-append (take n old) new, length-take n old, length-drop n old)
grown text edits (Cut at) within once =
    let front = edited_from edits 0 (take at.from text) in
    let bytes = slice_range text at.from at.to in
    let back = edited_from edits at.to (drop at.to text) ++ inserted_at edits (length text) in
    let was = ap length (three_parts text edits at.from at.to within.0 within.1) in
    let now = ap length (cut_law text edits at within) in
    let n : length bytes ≡ at.to - at.from = omega (arith, within, length-take (at.to - at.from) (drop at.from text), length-drop at.from text) in
    let apart = last_apart edits at once in
    let kept = kept_length edits at.from bytes (λ k low high. uncut edits at k apart low (omega arith)) in
    omega (arith, length-append (front ++ edited_from edits at.from bytes) back, length-append front (edited_from edits at.from bytes), length-append (front ++ left_by_cut edits at.from bytes) back, length-append front (left_by_cut edits at.from bytes))

some_edit : Edit
some_edit = Cut (record { from = 0; to = 0 })

up_to : (text : List ℕ) (edits : List Edit) (k : ℕ) → k ≤ length edits → All (LiesWithin text) edits → IsCutOnce edits → length (edited text (take k edits)) + sum_by cut_length (take k edits) ≡ length text + sum_by insert_length (take k edits)
up_to text edits zero le within once = rw edited_none refl
up_to text edits (suc k) le within once =
    let e = get_or edits k some_edit in
    let before = up_to text edits k (omega arith) within once in
    let n : suc k ≡ k + 1 = omega arith in
    let more : take (suc k) edits ≡ take k edits ++ e ∷ [] = ap (λ (m : ℕ). take m edits) n ∙ take_more edits k some_edit (omega arith) in
    let cut_once : IsCutOnce (take k edits ++ e ∷ []) = rw more at (once_take edits (suc k) once) in
    let step = grown text (take k edits) e (within k some_edit (omega arith)) cut_once in
    rw more (omega (arith, step, sum_by_push cut_length (take k edits) e, sum_by_push insert_length (take k edits) e))

pub length_law : (text : List ℕ) (edits : List Edit) → All (LiesWithin text) edits → IsCutOnce edits → length (edited text edits) + sum_by cut_length edits ≡ length text + sum_by insert_length edits
length_law text edits within once = let all = take_all (length edits) edits (omega arith) in rw all at (up_to text edits (length edits) (omega arith) within once)
