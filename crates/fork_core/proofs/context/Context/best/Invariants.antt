use Rattle.fork_core.proofs.Best.{BestBelow}
use Rattle.fork_core.proofs.context.Context.best.Given as goal

abbrev pub invariant-loop-b : goal.invariant-loop-b
invariant-loop-b l = BestBelow l.self l.b l.best
