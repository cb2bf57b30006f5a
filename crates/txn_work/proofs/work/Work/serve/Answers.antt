use Rattle.std.proofs.Common.{ap, sym, ◌∙◌, refl, List, ℕ}
use Rattle.std.specs.Prelude.{None, Option}
use Rattle.outside_ports.specs.declared.port.Addr.{Addr}
use Rattle.txn_server.proofs.Table.{step_after}
use Rattle.txn_dialogue.specs.Sends.{and_sent, back_to, repeated_text, server_step}
use Rattle.txn_work.specs.Works.{parts_in, work_shown}
use Rattle.txn_work.proofs.Responding.{served_so, sent, unsent, is_so, is_not_so}
use Rattle.txn_work.proofs.Shown.{stays}
use Rattle.txn_work.proofs.work.Work.serve.Goals as goal

pub returns-then-not-acts-clause-serves : goal.returns-then-not-acts-clause-serves
returns-then-not-acts-clause-serves c = λ pool d h.
    let t = c.args.txn.now in
    let r = c.args.readings.now in
    let w = work_shown t r c.args.self.now d.state.history d.base in
    let acts = c.server_step-acts.result in
    stays pool t _ r c.args.self.now c.args.self.now d (server_step c.args.event d) h refl refl refl refl refl refl refl h.sends
    (served_so w c.args.event c.server_step-acts.new.s acts _ _
    (step_after t.progress.server c.args.self.now.time c.args.event c.server_step-acts.new.s acts c.server_step-acts.ensures) refl
    (unsent acts.repeat _ _ _ (is_not_so acts.repeat c.if-not-acts.true))
    ∙ ap (server_step c.args.event) h.same)

pub returns-clause-serves : goal.returns-clause-serves
returns-clause-serves c = λ pool d h.
    let t = c.args.txn.now in
    let r = c.args.readings.now in
    let p = parts_in t r c.args.self.now in
    let w = work_shown t r c.args.self.now d.state.history d.base in
    let acts = c.server_step-acts.result in
    stays pool t _ r c.args.self.now c.send.new.self d (server_step c.args.event d) h c.send.ensures.same refl refl refl refl refl refl (c.send.ensures.read h.sends)
    (served_so w c.args.event c.server_step-acts.new.s acts _ _
    (step_after t.progress.server c.args.self.now.time c.args.event c.server_step-acts.new.s acts c.server_step-acts.ensures) (c.send.ensures.last _)
    (sent acts.repeat _ _ _ _ (is_so acts.repeat c.if-not-acts.false)
    (c.send.ensures.sends ∙ ap (λ (to : Addr). and_sent to (repeated_text p.repeated) None w.sends) c.reply_to-to.ensures
    ∙ ap (λ (x : Option (List ℕ)). and_sent (back_to w.origin) (repeated_text x) None w.sends) (sym (c.requires.begins p.repeated))))
    ∙ ap (server_step c.args.event) h.same)
