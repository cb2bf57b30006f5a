-- The pieces so far were written.
use Rattle.std.proofs.Common.{◌≡◌, ◌++◌, length}
use Rattle.sim_text.specs.Trace.{shown_datagram}
use Rattle.sim_text.proofs.datagram.push_datagram.Given as goal

abbrev pub invariant-loop-rest : goal.invariant-loop-rest
invariant-loop-rest l = l.trace.items ++ shown_datagram l.rest ≡ l.fn.trace.items ++ shown_datagram l.datagram

abbrev pub decreases-loop-rest : goal.decreases-loop-rest
decreases-loop-rest l = length l.rest
