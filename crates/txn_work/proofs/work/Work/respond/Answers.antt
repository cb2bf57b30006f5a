use Rattle.std.proofs.Common.{ℕ, List, ap, sym, subst, refl, ◌∙◌, Some}
use Rattle.std.specs.Prelude.{None}
use Rattle.outside_ports.specs.declared.port.Addr.{Addr}
use Rattle.txn_server.specs.declared.machine.ServerEvent.TheVariants.{Send}
use Rattle.txn_server.proofs.Table.{step_after}
use Rattle.txn_dialogue.specs.Sends.{and_sent, responding}
use Rattle.txn_texts.specs.Texts.{parts_of, text_of}
use Rattle.txn_texts.specs.Outboxes.{AllRead, sends_shown}
use Rattle.txn_work.specs.declared.work.Work.{Work}
use Rattle.txn_work.specs.Works.{parts_in, request_in, work_shown}
use Rattle.txn_work.proofs.Responding.{decided, up_to_final, behind_final, kept_on, sent, unsent, is_so, is_not_so}
use Rattle.txn_work.proofs.Shown.{stays}
use Rattle.txn_work.proofs.work.Work.respond.Goals as goal

pub returns-clause-responds : goal.returns-clause-responds
returns-clause-responds c = λ pool d h.
    let t = c.args.txn.now in
    let r = c.args.readings.now in
    let w = work_shown t r c.args.self.now d.state.history d.base in
    let text = text_of (parts_in t r c.args.self.now) c.args.text in
    let acts = c.server_step-acts.result in
    let sends = is_so acts.send c.if-not-acts.false in
    let first = c.send.new.self in
    let desk = c.keep_last.new.self in
    stays pool t _ r c.args.self.now (record first { desk = desk }) d (responding c.args.code text d) h (ap (λ (x : Work). record x { desk = desk }) c.send.ensures.same) refl refl refl refl refl refl
    (subst (λ (l : List ℕ). AllRead (parts_of t r l) first.outbox) (sym c.keep_last.ensures.passed) (c.send.ensures.read h.sends))
    (decided w c.args.code text c.server_step-acts.new.s acts _ _
    (step_after t.progress.server c.args.self.now.time (Send c.args.code) c.server_step-acts.new.s acts c.server_step-acts.ensures)
    (up_to_final acts.send _ text _ _ sends (sym (c.has_final-had_final.ensures (request_in t r) d.state.history) ∙ c.if-had_final.false) (c.keep_last.ensures.last _ ∙ ap Some c.send.ensures.text))
    (sent acts.send _ text _ _ sends (ap (λ (l : List ℕ). sends_shown (parts_of t r l) first.outbox) c.keep_last.ensures.passed ∙ c.send.ensures.sends ∙ ap (λ (to : Addr). and_sent to text None w.sends) c.reply_to-to.ensures))
    ∙ ap (responding c.args.code text) h.same)

pub returns-then-had_final-clause-responds : goal.returns-then-had_final-clause-responds
returns-then-had_final-clause-responds c = λ pool d h.
    let t = c.args.txn.now in
    let r = c.args.readings.now in
    let w = work_shown t r c.args.self.now d.state.history d.base in
    let text = text_of (parts_in t r c.args.self.now) c.args.text in
    let acts = c.server_step-acts.result in
    let sends = is_so acts.send c.if-not-acts.false in
    stays pool t _ r c.args.self.now c.send.new.self d (responding c.args.code text d) h c.send.ensures.same refl refl refl refl refl refl (c.send.ensures.read h.sends)
    (decided w c.args.code text c.server_step-acts.new.s acts _ _
    (step_after t.progress.server c.args.self.now.time (Send c.args.code) c.server_step-acts.new.s acts c.server_step-acts.ensures)
    (behind_final acts.send _ text _ _ sends (sym (c.has_final-had_final.ensures (request_in t r) d.state.history) ∙ c.if-had_final.true) (c.send.ensures.last _))
    (sent acts.send _ text _ _ sends (c.send.ensures.sends ∙ ap (λ (to : Addr). and_sent to text None w.sends) c.reply_to-to.ensures))
    ∙ ap (responding c.args.code text) h.same)

pub returns-then-not-acts-clause-responds : goal.returns-then-not-acts-clause-responds
returns-then-not-acts-clause-responds c = λ pool d h.
    let t = c.args.txn.now in
    let r = c.args.readings.now in
    let w = work_shown t r c.args.self.now d.state.history d.base in
    let text = text_of (parts_in t r c.args.self.now) c.args.text in
    let acts = c.server_step-acts.result in
    stays pool t _ r c.args.self.now c.args.self.now d (responding c.args.code text d) h refl refl refl refl refl refl refl h.sends
    (decided w c.args.code text c.server_step-acts.new.s acts _ _
    (step_after t.progress.server c.args.self.now.time (Send c.args.code) c.server_step-acts.new.s acts c.server_step-acts.ensures)
    (kept_on acts.send _ text _ (is_not_so acts.send c.if-not-acts.true))
    (unsent acts.send _ text _ (is_not_so acts.send c.if-not-acts.true))
    ∙ ap (responding c.args.code text) h.same)
