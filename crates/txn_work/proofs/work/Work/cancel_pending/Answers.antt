use Rattle.std.proofs.Common.{subst, List, ℕ, ◌∙◌}
use Rattle.txn_dialogue.specs.Sends.{all_cancelling}
use Rattle.txn_work.specs.Works.{Shows}
use Rattle.txn_work.proofs.work.Work.cancel_pending.Goals as goal

pub returns-clause-cancels : goal.returns-clause-cancels
returns-clause-cancels c = λ pool d h.
    subst (λ (l : List ℕ). Shows pool c.cancel_each.new.txn c.args.readings.now c.cancel_each.new.self (all_cancelling l d))
    (c.as_slice.ensures.value ∙ c.to_cancel-pending.ensures.value d.state.history h.context) (c.cancel_each.ensures.cancels pool d h)
