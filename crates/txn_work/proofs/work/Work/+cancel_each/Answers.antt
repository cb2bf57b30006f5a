use Rattle.std.proofs.Common.{subst, List, ℕ}
use Rattle.std.proofs.lemmas.List.{take_rest}
use Rattle.txn_dialogue.specs.Sends.{Work as Decided, all_cancelling, cancelling}
use Rattle.txn_work.specs.Works.{Shows}
use Rattle.txn_work.proofs.Branches.{cancels_on}
use Rattle.txn_work.proofs.work.Work.+cancel_each.Goals as goal

pub returns-clause-cancels : goal.returns-clause-cancels
returns-clause-cancels m c = λ pool d h.
    let ns = c.args.numbers.now in
    subst (λ (y : Decided). Shows pool c.cancel_each.new.txn c.args.readings.now c.cancel_each.new.self y) (cancels_on ns c.in-Some.n.now d c.in-Some.ensures.value)
    (subst (λ (l : List ℕ). Shows pool c.cancel_each.new.txn c.args.readings.now c.cancel_each.new.self (all_cancelling l (cancelling c.in-Some.n.now d))) (take_rest ns 1)
    (c.cancel_each.ensures.cancels pool (cancelling c.in-Some.n.now d) (c.cancel.ensures.cancels pool d h)))
