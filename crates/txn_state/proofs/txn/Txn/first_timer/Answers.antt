use Rattle.std.proofs.Common.{None, subst, List}
use Rattle.txn_state.specs.declared.branch.Branch.{Branch}
use Rattle.txn_state.specs.Due.{Adds}
use Rattle.txn_dialogue.specs.declared.happening.SlotTimer.TheVariants.{Suspension, Server}
use Rattle.txn_server.specs.declared.machine.ServerTimer.TheVariants.{Retry, End}
use Rattle.txn_dialogue.specs.Timers.{armed, branches_timers}
use Rattle.txn_state.specs.Kept.{branches_shown}
use Rattle.txn_state.proofs.Firsts.{next}
use Rattle.txn_state.proofs.txn.Txn.first_timer.Goals as goal

pub returns : goal.returns
returns c = λ request h.
    let progress = c.args.self.now.progress in
    next c.args.moment c.armed.result.above None (armed Suspension progress.suspension_due) _ c.armed.result.first c.branches.result.first c.armed.ensures.same c.armed.ensures.adds
    (next c.armed.result.above c.armed-2.result.above c.armed.result.first (armed (Server Retry) progress.server.retry) _ c.armed-2.result.first c.branches.result.first c.armed-2.ensures.same c.armed-2.ensures.adds
    (next c.armed-2.result.above c.armed-3.result.above c.armed-2.result.first (armed (Server End) progress.server.end) (branches_timers 0 (branches_shown request c.args.self.now.branches.items)) c.armed-3.result.first c.branches.result.first c.armed-3.ensures.same c.armed-3.ensures.adds
    (subst (λ (l : List Branch). Adds c.armed-3.result.above c.armed-3.result.first (branches_timers 0 (branches_shown request l)) c.branches.result.first) c.as_slice.ensures.value (c.branches.ensures.adds request))))
