use Rattle.std.proofs.Common.{ap, refl}
use Rattle.txn_dialogue.specs.Events.{unsuspended}
use Rattle.txn_work.proofs.Shown.{stays}
use Rattle.txn_work.proofs.work.Work.resume.Goals as goal

pub returns-clause-resumes : goal.returns-clause-resumes
returns-clause-resumes c = λ pool r d h. stays pool c.args.txn.now _ r c.args.self.now c.args.self.now d (unsuspended d) h refl refl refl refl refl refl refl h.sends (ap (unsuspended) h.same)
