use Rattle.std.proofs.Common.{Some, None, true, refl, sym, ap, subst, ◌∙◌}
use Rattle.txn_dialogue.specs.Sends.{Work as Decided, with_cancel}
use Rattle.txn_state.specs.Kept.{branch_shown}
use Rattle.txn_dialogue.specs.Slots.{reading}
use Rattle.txn_texts.specs.Texts.{cancel_for, request_at}
use Rattle.txn_work.specs.Works.{Shows, request_in}
use Rattle.txn_work.proofs.Shown.{changes_branch, shown_at}
use Rattle.txn_work.proofs.Branches.{all_read, cancel_is, cancel_so_sent, not_ripe, not_there, now_is, ripe_ripened, ripe_so, sends_same}
use Rattle.txn_work.proofs.work.Work.cancel_ripe.Goals as goal

pub returns-in_default-branch-clause-cancels : goal.returns-in_default-branch-clause-cancels
returns-in_default-branch-clause-cancels c = λ pool d h.
    subst (λ (x : Decided). Shows pool c.args.txn.now c.args.readings.now c.args.self.now x) (not_there d c.args.n (shown_at pool c.args.txn.now c.args.readings.now c.args.self.now d c.args.n None h (sym c.in_default-branch.ensures))) h

pub returns-then-not-is_ripe-clause-cancels : goal.returns-then-not-is_ripe-clause-cancels
returns-then-not-is_ripe-clause-cancels c = λ pool d h.
    let rq = request_in c.args.txn.now c.args.readings.now in
    let b = branch_shown rq c.in_Some-branch.branch.now in
    subst (λ (x : Decided). Shows pool c.args.txn.now c.args.readings.now c.args.self.now x)
    (not_ripe d c.args.n b (shown_at pool c.args.txn.now c.args.readings.now c.args.self.now d c.args.n (Some c.in_Some-branch.branch.now) h (sym c.in_Some-branch.ensures))
    (sym (c.is_ripe.ensures rq) ∙ c.if-not-is_ripe.true)) h

pub returns-clause-cancels : goal.returns-clause-cancels
returns-clause-cancels c = λ pool d h.
    let t = c.args.txn.now in
    let r = c.args.readings.now in
    let w = c.args.self.now in
    let rq = request_in t r in
    let x = c.in_Some-branch.branch.now in
    let b = branch_shown rq x in
    let there = sym c.in_Some-branch.ensures in
    let at = shown_at pool t r w d c.args.n (Some x) h there in
    let ripe = sym (c.is_ripe.ensures rq) ∙ c.if-not-is_ripe.false in
    subst (λ (y : Decided). Shows pool c.set_branch_state.new.self r c.send.new.self y)
    (ripe_so d c.args.n b _ at ripe refl)
    (changes_branch pool t c.set_branch_state.new.self r w c.send.new.self d c.args.n (with_cancel d.now) _ h c.set_branch_state.ensures.same c.send.ensures.same
    (c.set_branch_state.ensures.changes rq (with_cancel d.now) (ripe_ripened rq _ x w.time d.now c.begun.result c.after.result there ripe (now_is pool t r w d h) c.begun.ensures c.after.ensures))
    c.set_branch_state.ensures.requests (c.set_branch_state.ensures.pools pool) c.set_branch_state.ensures.count
    c.send.ensures.last (c.send.ensures.read (all_read pool t c.set_branch_state.new.self r w d h c.set_branch_state.ensures.same c.set_branch_state.ensures.requests))
    (c.send.ensures.sends
    ∙ cancel_so_sent true x.to b.to _ _ _ _ refl
    (ap (λ ts. cancel_for (reading (request_at ts c.args.n))) c.set_branch_state.ensures.requests ∙ cancel_is pool t r w d c.args.n x b h there at)
    (sends_same pool t c.set_branch_state.new.self r w d h c.set_branch_state.ensures.same c.set_branch_state.ensures.requests)))
