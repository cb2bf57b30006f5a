-- No CRLF stands before this place.
use Rattle.std.proofs.Common.{◌≡◌, ◌+◌, drop}
use Rattle.sim_text.specs.Pieces.{first_len}
use Rattle.sim_text.proofs.datagram.first_len.Given as goal

abbrev pub invariant-loop-at : goal.invariant-loop-at
invariant-loop-at l = l.at + first_len (drop l.at l.datagram) ≡ first_len l.datagram
