use Rattle.std.proofs.Common.{None, refl, sym, ap, subst, ◌∙◌, List}
use Rattle.txn_client.specs.declared.machine.Client.{Client}
use Rattle.txn_client.specs.declared.machine.ClientActs.{ClientActs}
use Rattle.txn_client.proofs.Table.{step_after}
use Rattle.txn_dialogue.specs.Slots.{TxnBranch, reading}
use Rattle.txn_dialogue.specs.Sends.{Sent, Work as Decided, sent_if}
use Rattle.txn_state.specs.Kept.{requests_of}
use Rattle.txn_texts.specs.Texts.{ack_between, request_at, seen_of}
use Rattle.txn_work.specs.declared.work.Work.{Work}
use Rattle.txn_work.specs.Works.{Shows, ack_for, request_in}
use Rattle.txn_work.proofs.Shown.{changes_branch, is_there}
use Rattle.txn_work.proofs.Branches.{ack_is, after_at, all_read, both_sent, client_is, client_so, now_is, put_client, request_is, sends_same, to_is}
use Rattle.txn_work.proofs.work.Work.step_client.Goals as goal

pub returns-clause-steps : goal.returns-clause-steps
returns-clause-steps c = λ pool d b h at.
    let t = c.args.txn.now in
    let r = c.args.readings.now in
    let w = c.args.self.now in
    let rq = request_in t r in
    let n = c.args.n in
    let x = c.in_Some-branch.branch.now in
    let there = sym c.in_Some-branch.ensures in
    let acts = c.client_step-acts.result in
    let client = c.client_step-acts.new.c in
    let one = c.send_if.new.self in
    let two = c.send_if-2.new.self in
    let put = c.set_branch_state.ensures in
    let requests = put.requests in
    subst (λ (y : Decided). Shows pool c.set_branch_state.new.self r two y)
    (client_so d n b c.args.event (ack_for b (seen_of r.came)) client acts _
    (after_at x.state.client b.client c.args.event w.time d.now (client, acts) (step_after x.state.client w.time c.args.event client acts c.client_step-acts.ensures)
    (client_is pool t r w d n x b h there at) (now_is pool t r w d h)) refl)
    (changes_branch pool t c.set_branch_state.new.self r w two d n (λ (y : TxnBranch). record y { client = client }) _ h put.same
    (c.send_if-2.ensures.same ∙ ap (λ (y : Work). record y { desk = two.desk; outbox = two.outbox }) c.send_if.ensures.same)
    (put.changes rq (λ (y : TxnBranch). record y { client = client }) (put_client rq _ x client there))
    requests (put.pools pool) put.count
    (λ old. c.send_if-2.ensures.last old ∙ c.send_if.ensures.last old)
    (c.send_if-2.ensures.read (c.send_if.ensures.read (all_read pool t c.set_branch_state.new.self r w d h put.same requests)))
    (c.send_if-2.ensures.sends
    ∙ ap (λ (l : List Sent). sent_if acts.ack x.to (ack_between (reading (request_at (requests_of c.set_branch_state.new.self.branches.items) n)) (seen_of r.came)) None l) c.send_if.ensures.sends
    ∙ both_sent acts x.to b.to n _ _ _ _ _ _ (to_is pool t r w d n x b h there at)
    (ap (λ ts. request_at ts n) requests ∙ request_is pool t r w d n x b h there at)
    (ap (λ ts. ack_between (reading (request_at ts n)) (seen_of r.came)) requests ∙ ack_is pool t r w d n x b h there at (seen_of r.came))
    (sends_same pool t c.set_branch_state.new.self r w d h put.same requests)))

pub returns-clause-acts : goal.returns-clause-acts
returns-clause-acts c = λ pool d b h at.
    let t = c.args.txn.now in
    let r = c.args.readings.now in
    let w = c.args.self.now in
    let x = c.in_Some-branch.branch.now in
    let there = sym c.in_Some-branch.ensures in
    sym (ap (λ (m : Client × ClientActs). m.1)
    (after_at x.state.client b.client c.args.event w.time d.now (c.client_step-acts.new.c, c.client_step-acts.result)
    (step_after x.state.client w.time c.args.event c.client_step-acts.new.c c.client_step-acts.result c.client_step-acts.ensures)
    (client_is pool t r w d c.args.n x b h there at) (now_is pool t r w d h)))

pub returns-in_default-branch-clause-steps : goal.returns-in_default-branch-clause-steps
returns-in_default-branch-clause-steps c = λ pool d b h at. is_there pool c.args.txn.now c.args.readings.now c.args.self.now d c.args.n b h (sym c.in_default-branch.ensures) at

pub returns-in_default-branch-clause-acts : goal.returns-in_default-branch-clause-acts
returns-in_default-branch-clause-acts c = λ pool d b h at. is_there pool c.args.txn.now c.args.readings.now c.args.self.now d c.args.n b h (sym c.in_default-branch.ensures) at
