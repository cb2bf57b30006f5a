use Rattle.std.proofs.Common.{◌≡◌, false, take}
use Rattle.msg_edits.specs.Edited.{is_cut}
use Rattle.msg_edits.specs.Writing.{edits_of}
use Rattle.msg_edits.proofs.changes.Changes.cuts.Given as goal

abbrev pub invariant-loop-i : goal.invariant-loop-i
invariant-loop-i l = is_cut (take l.i (edits_of l.self)) l.at ≡ false
