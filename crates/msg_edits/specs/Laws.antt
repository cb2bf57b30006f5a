-- Words in which the laws of edited texts are said.
use Rattle.std.specs.Prelude.{ℕ, ◌-◌, ◌≤◌, List, length, ◌<◌, ◌⊎◌}
use Rattle.std.specs.List.{flat_map, enumerate_from, count_by}
use Rattle.msg_edits.specs.declared.parts.Edit.{Edit}
use Rattle.msg_edits.specs.declared.parts.Edit.TheVariants.{Cut, Insert}
use Rattle.msg_edits.specs.Edited.{cuts_byte, inserted_at}

-- the edit lies within the text
abbrev pub LiesWithin : List ℕ → Edit → Type 0
LiesWithin text (Cut at) = (at.from ≤ at.to) × (at.to ≤ length text)
LiesWithin text (Insert place new) = place ≤ length text

-- no byte is cut twice
abbrev pub IsCutOnce : List Edit → Type 0
IsCutOnce edits = (i : ℕ) → count_by (cuts_byte i) edits ≤ 1

-- how many bytes the edit takes away, and how many it puts in
abbrev pub cut_length : Edit → ℕ
cut_length (Cut at) = at.to - at.from
cut_length (Insert place new) = 0

abbrev pub insert_length : Edit → ℕ
insert_length (Cut at) = 0
insert_length (Insert place new) = length new

-- what is left of the bytes from place i on where all of them are cut: the inserts before them
abbrev pub left_by_cut : List Edit → ℕ → List ℕ → List ℕ
left_by_cut edits i bytes = flat_map (λ (byte : ℕ × ℕ). inserted_at edits byte.0) (enumerate_from i bytes)

-- the edit has no byte and no place from i up to j
abbrev pub IsElsewhere : ℕ → ℕ → Edit → Type 0
IsElsewhere i j (Cut at) = (at.to ≤ i) ⊎ (j ≤ at.from)
IsElsewhere i j (Insert place new) = (place < i) ⊎ (j ≤ place)
