use Rattle.std.proofs.Common.{ap, refl}
use Rattle.txn_dialogue.specs.Rounds.{disarmed}
use Rattle.txn_work.proofs.Shown.{stays}
use Rattle.txn_work.proofs.work.Work.disarm_failure.Goals as goal

pub returns-clause-disarms : goal.returns-clause-disarms
returns-clause-disarms c = λ pool r d h. stays pool c.args.txn.now _ r c.args.self.now c.args.self.now d (disarmed d) h refl refl refl refl refl refl refl h.sends (ap (disarmed) h.same)
