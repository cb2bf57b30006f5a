use Rattle.std.proofs.Common.{Some, refl, sym, ap, subst, ◌∙◌}
use Rattle.txn_client.proofs.Table.{step_after}
use Rattle.txn_dialogue.specs.Slots.{TxnBranch, reading}
use Rattle.txn_dialogue.specs.Sends.{Work as Decided}
use Rattle.txn_texts.specs.Texts.{cancel_for, request_at}
use Rattle.txn_work.specs.Works.{Shows, request_in}
use Rattle.txn_work.proofs.Shown.{changes_branch}
use Rattle.txn_work.proofs.Branches.{after_at, all_read, cancel_is, cancel_so_sent, cancel_stepped_so, cancels_client, now_is, put_cancel, sends_same, to_is}
use Rattle.txn_work.proofs.work.Work.fire_cancel.Goals as goal

pub returns-clause-fires : goal.returns-clause-fires
returns-clause-fires c = λ pool d b c' h at has.
    let t = c.args.txn.now in
    let r = c.args.readings.now in
    let w = c.args.self.now in
    let rq = request_in t r in
    let x = c.in_Some-branch.branch.now in
    let there = sym c.in_Some-branch.ensures in
    let acts = c.client_step-acts.result in
    let client = c.client_step-acts.new.c in
    let is = cancels_client pool t r w d c.args.n x b c' c.in-Some.client h there at has (sym c.in-Some.is) in
    subst (λ (y : Decided). Shows pool c.set_branch_state.new.self r c.send_if.new.self y)
    (cancel_stepped_so d c.args.n b c.args.event c' client acts _
    (after_at c.in-Some.client c' c.args.event w.time d.now (client, acts) (step_after c.in-Some.client w.time c.args.event client acts c.client_step-acts.ensures) is (now_is pool t r w d h)) refl)
    (changes_branch pool t c.set_branch_state.new.self r w c.send_if.new.self d c.args.n (λ (y : TxnBranch). record y { cancel = Some client }) _ h c.set_branch_state.ensures.same c.send_if.ensures.same
    (c.set_branch_state.ensures.changes rq (λ (y : TxnBranch). record y { cancel = Some client }) (put_cancel rq _ x client there))
    c.set_branch_state.ensures.requests (c.set_branch_state.ensures.pools pool) c.set_branch_state.ensures.count
    c.send_if.ensures.last (c.send_if.ensures.read (all_read pool t c.set_branch_state.new.self r w d h c.set_branch_state.ensures.same c.set_branch_state.ensures.requests))
    (c.send_if.ensures.sends
    ∙ cancel_so_sent acts.send x.to b.to _ _ _ _ (to_is pool t r w d c.args.n x b h there at)
    (ap (λ ts. cancel_for (reading (request_at ts c.args.n))) c.set_branch_state.ensures.requests ∙ cancel_is pool t r w d c.args.n x b h there at)
    (sends_same pool t c.set_branch_state.new.self r w d h c.set_branch_state.ensures.same c.set_branch_state.ensures.requests)))
