use Rattle.std.proofs.Common.{ap, subst}
use Rattle.txn_dialogue.specs.Sends.{made_text, responding}
use Rattle.txn_texts.specs.Reasons.{reason_text}
use Rattle.txn_work.specs.Works.{Shows}
use Rattle.txn_work.proofs.work.Work.respond_with.Goals as goal

pub returns-clause-responds : goal.returns-clause-responds
returns-clause-responds c = λ pool d h.
    subst (λ x. Shows pool c.respond.new.txn c.args.readings.now c.respond.new.self x) (ap (λ w. responding c.args.code (made_text w.origin c.args.code (reason_text c.args.reason)) d) h.same) (c.respond.ensures.responds pool d h)
