use Rattle.txn_work.proofs.work.Work.cancel.Goals as goal

pub returns-clause-cancels : goal.returns-clause-cancels
returns-clause-cancels c = λ pool d h. c.cancel_ripe.ensures.cancels pool _ (c.mark_cancelled.ensures.marks pool c.args.readings.now d h)
