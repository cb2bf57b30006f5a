use Rattle.std.proofs.Common.{◌≡◌, ℕ, true, false, take}
use Rattle.msg_edits.specs.Edited.{has_byte, is_cut}
use Rattle.msg_edits.proofs.list.meets_cut.Given as goal

abbrev pub invariant-loop-edit : goal.invariant-loop-edit
invariant-loop-edit l = (i : ℕ) → has_byte l.at i ≡ true → is_cut (take l.edit-index l.edits) i ≡ false
