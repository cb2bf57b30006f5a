use Rattle.std.proofs.Common.{arith}
use Rattle.slot_lists.proofs.Links.{no_lists}
use Rattle.slot_lists.proofs.lists.Lists.new.Goals as goal

pub invariant_of-result : goal.invariant_of-result
invariant_of-result c = rw (c.in_ok-places.ensures, c.in_ok-first.ensures, c.in_ok-next.ensures) (no_lists c.args.slots c.args.lists (omega arith) (omega arith))
