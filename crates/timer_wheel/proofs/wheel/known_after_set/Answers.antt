use Rattle.timer_wheel.proofs.Placed.{known_stays}
use Rattle.timer_wheel.proofs.wheel.known_after_set.Goals as goal

pub returns-else-first-slot-clause-known : goal.returns-else-first-slot-clause-known
returns-else-first-slot-clause-known c = known_stays c.args.known (c.in_ok-first.first, c.in_ok-first.field-0-1) c.args.slot c.args.timer c.in_ok-first.was c.if-first-slot.false c.if-goes_before.ensures
