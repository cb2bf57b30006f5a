-- Edits of a text, as edits of a part of it.
use Rattle.std.proofs.Common.{◌≡◌, ℕ, ◌+◌, ◌-◌, ◌<◌, ◌≤◌, List, [], ◌∷◌, length, drop, refl, ap, ◌∙◌, arith, length-take, length-drop}
use Rattle.std.specs.Prelude.{map, slice_range}
use Rattle.std.proofs.lemmas.List.{append-nil}
use Rattle.std.proofs.lemmas.Grind.{common_steps}
use Rattle.sip_words.specs.declared.Span.{Span}
use Rattle.sip_words.specs.Spans.{IsWithin}
use Rattle.msg_edits.specs.declared.parts.Edit.{Edit}
use Rattle.msg_edits.specs.declared.parts.Edit.TheVariants.{Cut, Insert}
use Rattle.msg_edits.specs.Edited.{cuts_byte, text_at, is_cut, inserted_at, edited_byte, edited_from, edited}
use Rattle.sip_build.specs.Writing.{within}

one_text : (at : Span) (e : Edit) (i : ℕ) → i < at.to - at.from → text_at i (within at e) ≡ text_at (at.from + i) e
one_text at (Cut s) i lt = refl
one_text at (Insert place text) i lt = grind (arith, common_steps)

one_cut : (at : Span) (e : Edit) (i : ℕ) → cuts_byte i (within at e) ≡ cuts_byte (at.from + i) e
one_cut at (Cut s) i = grind (arith, common_steps)
one_cut at (Insert place text) i = refl

last_text : (at : Span) (e : Edit) → at.from ≤ at.to → text_at (at.to - at.from) (within at e) ≡ []
last_text at (Cut s) le = refl
last_text at (Insert place text) le = grind (arith, common_steps)

inserts_within : (at : Span) (edits : List Edit) (i : ℕ) → i < at.to - at.from → inserted_at (map (within at) edits) i ≡ inserted_at edits (at.from + i)
inserts_within at [] i lt = refl
inserts_within at (e ∷ edits) i lt = rw (one_text at e i lt, inserts_within at edits i lt) refl

cuts_within : (at : Span) (edits : List Edit) (i : ℕ) → is_cut (map (within at) edits) i ≡ is_cut edits (at.from + i)
cuts_within at [] i = refl
cuts_within at (e ∷ edits) i = rw (one_cut at e i, cuts_within at edits i) refl

none_at_end : (at : Span) (edits : List Edit) → at.from ≤ at.to → inserted_at (map (within at) edits) (at.to - at.from) ≡ []
none_at_end at [] le = refl
none_at_end at (e ∷ edits) le = rw (last_text at e le, none_at_end at edits le) refl

byte_within : (at : Span) (edits : List Edit) (i b : ℕ) → i < at.to - at.from → edited_byte (map (within at) edits) (i, b) ≡ edited_byte edits (at.from + i, b)
byte_within at edits i b lt = rw (inserts_within at edits i lt, cuts_within at edits i) refl

bytes_within : (at : Span) (edits : List Edit) (i : ℕ) (bytes : List ℕ) → i + length bytes ≤ at.to - at.from → edited_from (map (within at) edits) i bytes ≡ edited_from edits (at.from + i) bytes
bytes_within at edits i [] le = refl
bytes_within at edits i (b ∷ bytes) le =
    let n : at.from + (i + 1) ≡ at.from + i + 1 = omega arith in
    let here = byte_within at edits i b (omega arith) in
    let rest = bytes_within at edits (i + 1) bytes (omega arith) ∙ ap (λ (m : ℕ). edited_from edits m bytes) n in
    rw (here, rest) refl

-- a part of the edited text
pub part_within : (b : List ℕ) (at : Span) (edits : List Edit) → IsWithin b at → edited (slice_range b at.from at.to) (map (within at) edits) ≡ edited_from edits at.from (slice_range b at.from at.to)
unfolding edited
part_within b at edits is =
    let bytes = slice_range b at.from at.to in
    let n : length bytes ≡ at.to - at.from = omega (arith, is.order, is.end, length-take (at.to - at.from) (drop at.from b), length-drop at.from b) in
    let zero : at.from + 0 ≡ at.from = omega arith in
    let front = bytes_within at edits 0 bytes (omega arith) ∙ ap (λ (m : ℕ). edited_from edits m bytes) zero in
    rw (front, n, none_at_end at edits is.order) (append-nil (edited_from edits at.from bytes))
