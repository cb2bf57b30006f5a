use Rattle.std.proofs.Common.{arith}
use Rattle.timer_wheel.proofs.Writes.{no_lists}
use Rattle.timer_wheel.proofs.lists.Lists.new.Goals as goal

pub invariant_of-result : goal.invariant_of-result
invariant_of-result c = ((λ _. 0), rw (c.in_ok-places.ensures, c.in_ok-next.ensures, c.in_ok-prev.ensures, c.in_ok-words.ensures) (no_lists c.args.slots (omega arith)))
