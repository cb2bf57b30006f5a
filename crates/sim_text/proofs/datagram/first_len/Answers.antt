-- Where no CRLF stands, the piece is the whole datagram.
use Rattle.std.proofs.Common.{arith}
use Rattle.sim_text.proofs.Pieces.{ends}
use Rattle.sim_text.proofs.datagram.first_len.Goals as goal

pub returns-clause-value : goal.returns-clause-value
returns-clause-value c =
    let none = ends c.args.datagram.now c.loop-at.at (omega arith) in omega (arith, none, c.loop-at.invariant)
