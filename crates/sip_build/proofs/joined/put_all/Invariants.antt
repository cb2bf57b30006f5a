use Rattle.std.proofs.Common.{List, ℕ, ◌++◌, take}
use Rattle.msg_edits.specs.Writing.{IsWrittenSoFar}
use Rattle.sip_build.specs.Writing.{pieces_text}
use Rattle.sip_build.proofs.joined.put_all.Given as goal

abbrev pub invariant-loop-piece : goal.invariant-loop-piece
invariant-loop-piece l = (room text : List ℕ) → IsWrittenSoFar room l.fn.out l.len text → IsWrittenSoFar room l.out l.end (text ++ pieces_text (take l.piece-index l.pieces))
