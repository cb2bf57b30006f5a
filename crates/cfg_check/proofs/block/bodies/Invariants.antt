use Rattle.cfg_check.proofs.Blocks.{BodiesUpTo}
use Rattle.cfg_check.proofs.block.bodies.Given as goal

abbrev pub invariant-loop-item : goal.invariant-loop-item
invariant-loop-item l = BodiesUpTo l.known l.items l.item-index l.fn.checker l.bodies l.checker
