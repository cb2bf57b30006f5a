-- One piece more was written.
use Rattle.std.proofs.Common.{◌≡◌, ◌<◌, length, sym, append_assoc, append-nil}
use Rattle.sim_text.proofs.Pieces.{shown_first, shown_nothing, nonempty, empty}
use Rattle.sim_text.proofs.datagram.push_datagram.Goals as goal

pub loop-rest-preserved : goal.loop-rest-preserved
loop-rest-preserved c =
    let rest = c.loop-rest.rest.now in
    let some : 0 < length rest = nonempty (length rest) (sym c.loop-rest-test.ensures) in
    rw (
      c.in_ok-push_piece.ensures,
      append_assoc,
      c.split_at.ensures.front,
      c.split_at.ensures.back,
      c.first_len.ensures.value,
      ← shown_first rest some,
    ) c.loop-rest.invariant

pub returns : goal.returns
returns c =
    let rest = c.loop-rest.rest.now in
    let none : length rest ≡ 0 = empty (length rest) (sym c.loop-rest-test.ensures) in
    rw (shown_nothing rest none, append-nil) at c.loop-rest.invariant
