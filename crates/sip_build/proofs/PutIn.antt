-- An insert among other edits.
use Rattle.std.proofs.Common.{◌≡◌, ◌≢◌, ℕ, ◌+◌, ◌<◌, ◌≤◌, List, [], ◌∷◌, ◌++◌, length, take, drop, refl, sym, ap, ◌∙◌, arith, append_assoc, length-take, length-drop}
use Rattle.std.specs.Prelude.{if◌then◌else◌}
use Rattle.std.proofs.lemmas.Bool.{ne_eqb, eq-eqb}
use Rattle.std.proofs.lemmas.List.Concat.{flat_map-append}
use Rattle.std.proofs.lemmas.List.Folds.{list_any-append}
use Rattle.msg_edits.specs.declared.parts.Edit.{Edit}
use Rattle.msg_edits.specs.declared.parts.Edit.TheVariants.{Insert}
use Rattle.msg_edits.specs.Edited.{text_at, cuts_byte, is_cut, inserted_at, edited_from, edited}
use Rattle.msg_edits.proofs.Grown.{same_bytes, parts_law}
use Rattle.sip_build.specs.Laws.{before_place, from_place}

elsewhere : (a c : List Edit) (place k : ℕ) (line : List ℕ) → place ≢ k → inserted_at (a ++ (Insert place line ∷ c)) k ≡ inserted_at (a ++ c) k
elsewhere a c place k line ne =
    let off = ne_eqb place k ne in
    flat_map-append (text_at k) a (Insert place line ∷ c) ∙ rw off (sym (flat_map-append (text_at k) a c))

here : (a c : List Edit) (place : ℕ) (line : List ℕ) → inserted_at a place ≡ [] → inserted_at (a ++ (Insert place line ∷ c)) place ≡ line ++ inserted_at (a ++ c) place
here a c place line none =
    let on = eq-eqb place place refl in
    flat_map-append (text_at place) a (Insert place line ∷ c) ∙ rw (none, on) (ap (λ (t : List ℕ). line ++ t) (sym (flat_map-append (text_at place) a c ∙ rw none refl)))

cuts : (a c : List Edit) (place k : ℕ) (line : List ℕ) → is_cut (a ++ (Insert place line ∷ c)) k ≡ is_cut (a ++ c) k
cuts a c place k line = list_any-append (cuts_byte k) a (Insert place line ∷ c) ∙ sym (list_any-append (cuts_byte k) a c)

grouped : (line inserted byte rest : List ℕ) → ((line ++ inserted) ++ byte) ++ rest ≡ line ++ ((inserted ++ byte) ++ rest)
grouped line inserted byte rest = simp append_assoc

from_here : (a c : List Edit) (place : ℕ) (line bytes : List ℕ) → inserted_at a place ≡ [] → 0 < length bytes → edited_from (a ++ (Insert place line ∷ c)) place bytes ≡ line ++ edited_from (a ++ c) place bytes
from_here a c place line [] none some = absurd (omega arith)
from_here a c place line (x ∷ xs) none some =
    let all = a ++ (Insert place line ∷ c) in
    let rest = same_bytes (a ++ c) all (place + 1) xs (λ k low high. elsewhere a c place k line (omega arith)) (λ k low high. cuts a c place k line) in
    rw (here a c place line none, cuts a c place place line, rest) (grouped line (inserted_at (a ++ c) place) (if is_cut (a ++ c) place then [] else x ∷ []) (edited_from (a ++ c) (place + 1) xs))

regroup : (front line back last : List ℕ) → (front ++ (line ++ back)) ++ last ≡ front ++ (line ++ (back ++ last))
regroup front line back last = simp append_assoc

pub put_in : (text line : List ℕ) (a c : List Edit) (place : ℕ) → inserted_at a place ≡ [] → place < length text → edited text (a ++ (Insert place line ∷ c)) ≡ before_place text (a ++ c) place ++ (line ++ from_place text (a ++ c) place)
put_in text line a c place none lt =
    let all = a ++ (Insert place line ∷ c) in
    let front = same_bytes (a ++ c) all 0 (take place text) (λ k low high. elsewhere a c place k line (omega (arith, length-take place text))) (λ k low high. cuts a c place k line) in
    let back = from_here a c place line (drop place text) none (omega (arith, length-drop place text)) in
    let last = elsewhere a c place (length text) line (omega arith) in
    parts_law text all place (omega arith) ∙ rw (front, back, last) (regroup (before_place text (a ++ c) place) line (edited_from (a ++ c) place (drop place text)) (inserted_at (a ++ c) (length text)))

pub two_parts : (text : List ℕ) (edits : List Edit) (place : ℕ) → place ≤ length text → edited text edits ≡ before_place text edits place ++ from_place text edits place
two_parts text edits place le = parts_law text edits place le ∙ append_assoc (before_place text edits place) (edited_from edits place (drop place text)) (inserted_at edits (length text))
