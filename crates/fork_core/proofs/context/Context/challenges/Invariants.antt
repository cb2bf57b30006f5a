use Rattle.std.proofs.Common.{◌≢◌, ◌≤◌}
use Rattle.fork_core.specs.Histories.{branch_mark, IsChallengeMark}
use Rattle.fork_core.proofs.Numbers.{ListsBelow}
use Rattle.fork_core.proofs.context.Context.challenges.Given as goal

abbrev pub invariant-loop-b : goal.invariant-loop-b
invariant-loop-b l = ListsBelow (λ k. (k ≢ l.chosen) × (l.self.first ≤ k) × IsChallengeMark (branch_mark l.self k)) l.branches.items l.b
