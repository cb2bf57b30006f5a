use Rattle.txn_state.proofs.Firsts.{next}
use Rattle.txn_state.proofs.timers.First.branch.Goals as goal

pub returns-clause-adds : goal.returns-clause-adds
returns-clause-adds c = λ request.
    next c.args.self.above c.armed.result.above c.args.self.first _ _ c.armed.result.first c.cancel.result.first c.armed.ensures.same c.armed.ensures.adds
    (next c.armed.result.above c.client.result.above c.armed.result.first _ _ c.client.result.first c.cancel.result.first c.client.ensures.same c.client.ensures.adds
    (next c.client.result.above c.armed-2.result.above c.client.result.first _ _ c.armed-2.result.first c.cancel.result.first c.armed-2.ensures.same c.armed-2.ensures.adds
    (next c.armed-2.result.above c.armed-3.result.above c.armed-2.result.first _ _ c.armed-3.result.first c.cancel.result.first c.armed-3.ensures.same c.armed-3.ensures.adds
    c.cancel.ensures.adds)))
