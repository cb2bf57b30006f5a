-- Edits with borrowed texts, as edits.
use Rattle.msg_edits.specs.declared.parts.Edit.{Edit}
use Rattle.msg_edits.specs.declared.parts.Edit.TheVariants as edit
use Rattle.msg_edits.specs.declared.parts.Change.{Change}
use Rattle.msg_edits.specs.declared.parts.Change.TheVariants.{Cut, Insert}

-- the edit that a change is
abbrev pub edit_of : Change → Edit
edit_of (Cut at) = edit.Cut at
edit_of (Insert place text) = edit.Insert place text.now
