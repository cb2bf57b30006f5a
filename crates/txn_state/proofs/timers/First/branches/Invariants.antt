use Rattle.std.proofs.Common.{◌≡◌, Option, drop}
use Rattle.host_meaning.specs.Run.{Received}
use Rattle.txn_dialogue.specs.declared.happening.ArmedTimer.{ArmedTimer}
use Rattle.txn_dialogue.specs.Timers.{branches_timers}
use Rattle.txn_state.specs.Kept.{branches_shown}
use Rattle.txn_state.specs.Due.{Adds}
use Rattle.txn_state.proofs.timers.First.branches.Given as goal

-- whoever looks at the branches that are left has looked at all
abbrev pub invariant-loop-n : goal.invariant-loop-n
invariant-loop-n l = record {
  same : l.first.above ≡ l.fn.self.above;
  leads : (request : Received) (r : Option ArmedTimer) → Adds l.fn.self.above l.first.first (branches_timers l.n (branches_shown request (drop l.n l.branches))) r
      → Adds l.fn.self.above l.fn.self.first (branches_timers 0 (branches_shown request l.branches)) r;
}
