-- When an edit is made, and why it is refused.
use Rattle.std.specs.Prelude.{◌≡◌, ℕ, ◌<◌, ◌≤◌, List, length, true}
use Rattle.sip_words.specs.declared.Span.{Span}
use Rattle.msg_edits.specs.declared.parts.Edit.{Edit}
use Rattle.msg_edits.specs.declared.list.EditFault.{EditFault}
use Rattle.msg_edits.specs.declared.list.EditFault.TheVariants.{Overlap, Full, NoMemory}
use Rattle.msg_edits.specs.Edited.{has_byte, is_cut}

-- the span has a byte that is cut already
abbrev pub MeetsCut : List Edit → Span → Type 0
MeetsCut edits at = (i : ℕ) × (has_byte at i ≡ true) × (is_cut edits i ≡ true)

abbrev pub CanCut : List Edit → Span → Type 0
CanCut edits at = (length edits < 64) × (MeetsCut edits at → ⊥)

abbrev pub RefusesCut : List Edit → Span → EditFault → Type 0
RefusesCut edits at Full = 64 ≤ length edits
RefusesCut edits at Overlap = (length edits < 64) × MeetsCut edits at
RefusesCut edits at NoMemory = ⊥

-- memory is asked for only where there is a place
abbrev pub RefusesInsert : List Edit → EditFault → Type 0
RefusesInsert edits Full = 64 ≤ length edits
RefusesInsert edits NoMemory = length edits < 64
RefusesInsert edits Overlap = ⊥
