-- A piece of a text within which no edit begins or ends.
use Rattle.std.proofs.Common.{◌≡◌, ℕ, suc, ◌+◌, ◌-◌, ◌<◌, ◌≤◌, subst, Bool, true, false, List, [], ◌∷◌, ◌++◌, length, take, drop, refl, sym, ap, ◌∙◌, arith, append_assoc, length-take, length-drop}
use Rattle.std.specs.Prelude.{if◌then◌else◌}
use Rattle.std.proofs.lemmas.List.{append-nil}
use Rattle.std.proofs.Math.Seq.{take-add}
use Rattle.msg_edits.specs.declared.parts.Edit.{Edit}
use Rattle.msg_edits.specs.Edited.{is_cut, inserted_at, edited_byte, edited_from}

-- bytes one after the other
pub from_append : (edits : List Edit) (i : ℕ) (xs ys : List ℕ) → edited_from edits i (xs ++ ys) ≡ edited_from edits i xs ++ edited_from edits (i + length xs) ys
from_append edits i [] ys = ap (λ (n : ℕ). edited_from edits n ys) (omega arith)
from_append edits i (x ∷ xs) ys =
    let n : i + 1 + length xs ≡ i + suc (length xs) = omega arith in
    let more = from_append edits (i + 1) xs ys in
    ap (λ (t : List ℕ). edited_byte edits (i, x) ++ t) (more ∙ ap (λ (m : ℕ). edited_from edits (i + 1) xs ++ edited_from edits m ys) n) ∙ sym (append_assoc (edited_byte edits (i, x)) (edited_from edits (i + 1) xs) (edited_from edits (i + suc (length xs)) ys))

-- bytes that are all cut, or all kept, and have no insert before any
all_alike : (edits : List Edit) (cut : Bool) (i : ℕ) (bytes : List ℕ) → ((k : ℕ) → i ≤ k → k < i + length bytes → inserted_at edits k ≡ []) → ((k : ℕ) → i ≤ k → k < i + length bytes → is_cut edits k ≡ cut) → edited_from edits i bytes ≡ (if cut then [] else bytes)
all_alike edits true i [] inserts cuts = refl
all_alike edits false i [] inserts cuts = refl
all_alike edits true i (b ∷ bytes) inserts cuts =
    let none = inserts i (omega arith) (omega arith) in
    let here = cuts i (omega arith) (omega arith) in
    let rest = all_alike edits true (i + 1) bytes (λ k low high. inserts k (omega arith) (omega arith)) (λ k low high. cuts k (omega arith) (omega arith)) in
    rw (none, here) rest
all_alike edits false i (b ∷ bytes) inserts cuts =
    let none = inserts i (omega arith) (omega arith) in
    let here = cuts i (omega arith) (omega arith) in
    let rest = all_alike edits false (i + 1) bytes (λ k low high. inserts k (omega arith) (omega arith)) (λ k low high. cuts k (omega arith) (omega arith)) in
    rw (none, here) (ap (λ (t : List ℕ). b ∷ t) rest)

first_alike : (edits : List Edit) (cut : Bool) (at : ℕ) (b : ℕ) (bytes : List ℕ) → is_cut edits at ≡ cut → ((k : ℕ) → at < k → k < at + suc (length bytes) → inserted_at edits k ≡ []) → ((k : ℕ) → at < k → k < at + suc (length bytes) → is_cut edits k ≡ cut) → edited_from edits at (b ∷ bytes) ≡ inserted_at edits at ++ (if cut then [] else b ∷ bytes)
first_alike edits true at b bytes here inserts cuts =
    let rest = all_alike edits true (at + 1) bytes (λ k low high. inserts k (omega arith) (omega arith)) (λ k low high. cuts k (omega arith) (omega arith)) in
    rw (here, rest) (simp append-nil)
first_alike edits false at b bytes here inserts cuts =
    let rest = all_alike edits false (at + 1) bytes (λ k low high. inserts k (omega arith) (omega arith)) (λ k low high. cuts k (omega arith) (omega arith)) in
    rw (here, rest) (simp append_assoc)

middle_alike : (edits : List Edit) (at stop : ℕ) (cut : Bool) (piece : List ℕ) → at < stop → length piece ≡ stop - at → ((k : ℕ) → at < k → k < stop → inserted_at edits k ≡ []) → ((k : ℕ) → at ≤ k → k < stop → is_cut edits k ≡ cut) → edited_from edits at piece ≡ inserted_at edits at ++ (if cut then [] else piece)
middle_alike edits at stop cut [] lt len inserts cuts = absurd (omega arith)
middle_alike edits at stop cut (b ∷ bytes) lt len inserts cuts = first_alike edits cut at b bytes (cuts at (omega arith) lt) (λ k low high. inserts k low (omega arith)) (λ k low high. cuts k (omega arith) (omega arith))

-- the text so far and one piece more
pub alike_piece : (edits : List Edit) (b : List ℕ) (at stop : ℕ) (cut : Bool) → at < stop → stop ≤ length b → ((k : ℕ) → at < k → k < stop → inserted_at edits k ≡ []) → ((k : ℕ) → at ≤ k → k < stop → is_cut edits k ≡ cut) → edited_from edits 0 (take stop b) ≡ edited_from edits 0 (take at b) ++ (inserted_at edits at ++ (if cut then [] else take (stop - at) (drop at b)))
alike_piece edits b at stop cut lt le inserts cuts =
    let piece = take (stop - at) (drop at b) in
    let n : at + (stop - at) ≡ stop = omega arith in
    let whole : take stop b ≡ take at b ++ piece = ap (λ (m : ℕ). take m b) (sym n) ∙ take-add at (stop - at) b in
    let before : 0 + length (take at b) ≡ at = omega (arith, length-take at b) in
    let len : length piece ≡ stop - at = omega (arith, length-take (stop - at) (drop at b), length-drop at b) in
    rw (whole, from_append edits 0 (take at b) piece, before, middle_alike edits at stop cut piece lt len inserts cuts) refl

pub one_byte : (edits : List Edit) (b : List ℕ) (at : ℕ) (cut : Bool) → at < length b → is_cut edits at ≡ cut → edited_from edits 0 (take (at + 1) b) ≡ edited_from edits 0 (take at b) ++ (inserted_at edits at ++ (if cut then [] else take (at + 1 - at) (drop at b)))
one_byte edits b at cut lt here =
    let P : ℕ → Type 0 = λ k. is_cut edits k ≡ cut in
    alike_piece edits b at (at + 1) cut (omega arith) (omega arith) (λ k low high. absurd (omega arith)) (λ k low high. let same : at ≡ k = omega arith in subst P same here)
