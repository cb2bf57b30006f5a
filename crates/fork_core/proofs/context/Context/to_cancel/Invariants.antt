use Rattle.std.proofs.Common.{◌≡◌}
use Rattle.fork_core.specs.declared.context.BranchMark.TheVariants.{Open}
use Rattle.fork_core.specs.Histories.{branch_mark}
use Rattle.fork_core.proofs.Numbers.{ListsBelow}
use Rattle.fork_core.proofs.context.Context.to_cancel.Given as goal

abbrev pub invariant-loop-b : goal.invariant-loop-b
invariant-loop-b l = ListsBelow (λ k. branch_mark l.self k ≡ Open) l.branches.items l.b
