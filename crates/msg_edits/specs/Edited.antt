-- The text after edits: a filter of its numbered bytes, with the inserts between them.
use Rattle.std.specs.Prelude.{ℕ, ◌==◌, Bool, false, ◌&&◌, nat_le, nat_lt, List, [], ◌∷◌, ◌++◌, length, if◌then◌else◌}
use Rattle.std.specs.List.{flat_map, list_any, enumerate_from}
use Rattle.sip_words.specs.declared.Span.{Span}
use Rattle.msg_edits.specs.declared.parts.Edit.{Edit}
use Rattle.msg_edits.specs.declared.parts.Edit.TheVariants.{Cut, Insert}

-- whether the span has the byte at place i
abbrev pub has_byte : Span → ℕ → Bool
has_byte at i = nat_le at.from i && nat_lt i at.to

-- whether the edit is a cut of the byte at place i
abbrev pub cuts_byte : ℕ → Edit → Bool
cuts_byte i (Cut at) = has_byte at i
cuts_byte i (Insert place text) = false

-- what the edit inserts at place i
abbrev pub text_at : ℕ → Edit → List ℕ
text_at i (Cut at) = []
text_at i (Insert place text) = if place == i then text else []

-- whether some cut has the byte at place i
abbrev pub is_cut : List Edit → ℕ → Bool
is_cut edits i = list_any (cuts_byte i) edits

-- the texts that are inserted at place i, in the order of making
abbrev pub inserted_at : List Edit → ℕ → List ℕ
inserted_at edits i = flat_map (text_at i) edits

-- a numbered byte becomes what is inserted before it, and itself where it isn't cut
abbrev pub edited_byte : List Edit → ℕ × ℕ → List ℕ
edited_byte edits byte = inserted_at edits byte.0 ++ (if is_cut edits byte.0 then [] else byte.1 ∷ [])

-- the bytes that stand from place i on, after edits, without what is inserted at their end
abbrev pub edited_from : List Edit → ℕ → List ℕ → List ℕ
edited_from edits i bytes = flat_map (edited_byte edits) (enumerate_from i bytes)

-- the text after edits
unfoldable pub edited : List ℕ → List Edit → List ℕ
edited text edits = edited_from edits 0 text ++ inserted_at edits (length text)
