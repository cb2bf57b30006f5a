use Rattle.msg_edits.specs.Writing.{edits_of}
use Rattle.msg_edits.proofs.Swept.{IsSweptSoFar}
use Rattle.msg_edits.proofs.changes.Changes.sweep.Given as goal

abbrev pub invariant-loop-i : goal.invariant-loop-i
invariant-loop-i l = IsSweptSoFar (edits_of l.self) l.order l.b l.i-index l.so_far l.fn.out l.out
