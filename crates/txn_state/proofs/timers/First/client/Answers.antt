use Rattle.std.proofs.Common.{subst}
use Rattle.txn_dialogue.specs.Timers.{armed}
use Rattle.txn_state.specs.Due.{Adds}
use Rattle.txn_state.proofs.Firsts.{next}
use Rattle.txn_state.proofs.timers.First.client.Goals as goal

pub returns-clause-adds : goal.returns-clause-adds
returns-clause-adds c =
    next c.args.self.above c.armed.result.above c.args.self.first _ _ c.armed.result.first c.armed-3.result.first c.armed.ensures.same
    (subst (λ t. Adds c.args.self.above c.args.self.first (armed t c.args.client.now.retry) c.armed.result.first) c.client_timer.ensures c.armed.ensures.adds)
    (next c.armed.result.above c.armed-2.result.above c.armed.result.first _ _ c.armed-2.result.first c.armed-3.result.first c.armed-2.ensures.same
    (subst (λ t. Adds c.armed.result.above c.armed.result.first (armed t c.args.client.now.limit) c.armed-2.result.first) c.client_timer-2.ensures c.armed-2.ensures.adds)
    (subst (λ t. Adds c.armed-2.result.above c.armed-2.result.first (armed t c.args.client.now.linger) c.armed-3.result.first) c.client_timer-3.ensures c.armed-3.ensures.adds))
