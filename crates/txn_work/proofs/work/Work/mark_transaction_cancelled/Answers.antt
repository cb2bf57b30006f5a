use Rattle.std.proofs.Common.{ap, refl}
use Rattle.txn_dialogue.specs.Events.{cancelled}
use Rattle.txn_work.proofs.Shown.{stays}
use Rattle.txn_work.proofs.work.Work.mark_transaction_cancelled.Goals as goal

pub returns-clause-marks : goal.returns-clause-marks
returns-clause-marks c = λ pool r d h. stays pool c.args.txn.now _ r c.args.self.now c.args.self.now d (cancelled c.args.owed d) h refl refl refl refl refl refl refl h.sends (ap (cancelled c.args.owed) h.same)
