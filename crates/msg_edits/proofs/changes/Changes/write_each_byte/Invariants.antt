use Rattle.std.proofs.Common.{take}
use Rattle.msg_edits.specs.Edited.{edited_from}
use Rattle.sip_words.specs.Room.{IsWrittenSoFar}
use Rattle.msg_edits.specs.Writing.{edits_of}
use Rattle.msg_edits.proofs.changes.Changes.write_each_byte.Given as goal

abbrev pub invariant-loop-at : goal.invariant-loop-at
invariant-loop-at l = IsWrittenSoFar l.fn.out l.out l.len (edited_from (edits_of l.self) 0 (take l.at l.b))
