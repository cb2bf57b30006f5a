use Rattle.std.proofs.Common.{◌≡◌, ap, sym, ◌∙◌, Bool, true, false, subst}
use Rattle.std.specs.Prelude.{codes}
use Rattle.txn_dialogue.specs.Sends.{made_text, responding_if, owes_487}
use Rattle.txn_work.specs.Works.{Shows, request_in}
use Rattle.txn_work.proofs.work.Work.settle.Goals as goal

pub returns-then-owes_487-clause-settles : goal.returns-then-owes_487-clause-settles
returns-then-owes_487-clause-settles c = λ pool d h.
    let owes : owes_487 d.state ≡ true = ap (λ w. owes_487 w.state) (sym h.same) ∙ sym (c.owes_487.ensures (request_in c.args.txn.now c.args.readings.now) d.state.history h.context) ∙ c.if-owes_487.true in
    subst (λ x. Shows pool c.respond_with.new.txn c.args.readings.now c.respond_with.new.self x) (sym (ap (λ (b : Bool). responding_if b 487 (made_text d.origin 487 (codes "Request Terminated")) d) owes)) (c.respond_with.ensures.responds pool d h)

pub returns-else-owes_487-clause-settles : goal.returns-else-owes_487-clause-settles
returns-else-owes_487-clause-settles c = λ pool d h.
    let owes : owes_487 d.state ≡ false = ap (λ w. owes_487 w.state) (sym h.same) ∙ sym (c.owes_487.ensures (request_in c.args.txn.now c.args.readings.now) d.state.history h.context) ∙ c.if-owes_487.false in
    subst (λ x. Shows pool c.args.txn.now c.args.readings.now c.args.self.now x) (sym (ap (λ (b : Bool). responding_if b 487 (made_text d.origin 487 (codes "Request Terminated")) d) owes)) h
