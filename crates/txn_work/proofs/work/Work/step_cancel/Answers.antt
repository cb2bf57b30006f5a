use Rattle.std.proofs.Common.{Some, refl, sym, ap, subst}
use Rattle.std.specs.Prelude.{slice_get}
use Rattle.txn_client.specs.declared.machine.Client.{Client}
use Rattle.txn_dialogue.specs.Slots.{TxnBranch}
use Rattle.txn_state.specs.declared.branch.BranchState.{BranchState}
use Rattle.txn_work.specs.Works.{Shows, request_in}
use Rattle.txn_work.proofs.Shown.{branch_alone}
use Rattle.txn_work.proofs.Branches.{put_state}
use Rattle.txn_client.specs.declared.machine.ClientActs.{ClientActs}
use Rattle.txn_client.proofs.Table.{step_after}
use Rattle.txn_dialogue.specs.Sends.{at_branch}
use Rattle.txn_work.proofs.Branches.{after_at, cancel_read, now_is}
use Rattle.txn_work.proofs.work.Work.step_cancel.Goals as goal

pub returns-clause-steps : goal.returns-clause-steps
returns-clause-steps c = λ pool r d b c' h at has.
    let t = c.args.txn.now in
    let w = c.args.self.now in
    let rq = request_in t r in
    let client = c.client_step.new.c in
    let acts = c.client_step.result in
    let is = cancel_read pool t r w d c.args.n b c' c.in-Some-cancel.client c.in-Some.state h at has c.in-Some.ensures c.in-Some-cancel.is in
    let made = after_at c.in-Some-cancel.client c' c.args.event w.time d.now (client, acts) (step_after c.in-Some-cancel.client w.time c.args.event client acts c.client_step.ensures) is (now_is pool t r w d h) in
    subst (λ (x : Client). Shows pool c.set_branch_state.new.self r w (at_branch c.args.n (λ y. record y { cancel = Some x }) d)) (sym (ap (λ (m : Client × ClientActs). m.0) made))
    (branch_alone pool t c.set_branch_state.new.self r w d c.args.n (λ (y : TxnBranch). record y { cancel = Some client }) h c.set_branch_state.ensures.same
    (c.set_branch_state.ensures.changes rq (λ (y : TxnBranch). record y { cancel = Some client })
    (put_state rq (slice_get t.branches.items c.args.n) c.in-Some.state (λ (s : BranchState). record s { cancel = Some client })
    (λ (y : TxnBranch). record y { cancel = Some client }) c.in-Some.ensures (λ b. refl)))
    c.set_branch_state.ensures.requests (c.set_branch_state.ensures.pools pool) c.set_branch_state.ensures.count)
