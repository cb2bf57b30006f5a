use Rattle.std.proofs.Common.{List, ℕ, ◌++◌, take}
use Rattle.msg_edits.specs.Edited.{inserted_at}
use Rattle.sip_words.specs.Room.{IsWrittenSoFar}
use Rattle.msg_edits.specs.Writing.{edits_of}
use Rattle.msg_edits.proofs.changes.Changes.put_inserts.Given as goal

abbrev pub invariant-loop-i : goal.invariant-loop-i
invariant-loop-i l = (room text : List ℕ) → IsWrittenSoFar room l.fn.out l.len text → IsWrittenSoFar room l.out l.end (text ++ inserted_at (take l.i (edits_of l.self)) l.at)
