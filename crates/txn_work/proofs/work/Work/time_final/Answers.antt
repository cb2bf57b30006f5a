use Rattle.std.proofs.Common.{◌≡◌, ℕ, Option, refl, ap, ◌∙◌}
use Rattle.std.specs.Prelude.{slice_get}
use Rattle.txn_dialogue.specs.Slots.{TxnBranch}
use Rattle.txn_state.specs.declared.branch.BranchState.{BranchState}
use Rattle.txn_state.specs.Kept.{branch_shown}
use Rattle.txn_work.specs.Works.{request_in}
use Rattle.txn_work.proofs.Shown.{branch_alone}
use Rattle.txn_work.proofs.Branches.{none_alone, none_is, put_state}
use Rattle.txn_moments.specs.Moments.{moment_after}
use Rattle.txn_dialogue.specs.Replies.{final_due_after}
use Rattle.txn_dialogue.specs.Sends.{Work as Decided}
use Rattle.txn_work.proofs.work.Work.time_final.Goals as goal

pub returns-in-Some-clause-times : goal.returns-in-Some-clause-times
returns-in-Some-clause-times c = λ pool r d h.
    let t = c.args.txn.now in
    let rq = request_in t r in
    let due = moment_after d.now d.state.final_timers.invite in
    let is : c.after-due.result ≡ due = c.after-due.ensures ∙ ap (λ (x : Decided). moment_after x.now x.state.final_timers.invite) h.same in
    branch_alone pool t c.set_branch_state.new.self r c.args.self.now d c.args.n (λ (b : TxnBranch). record b { final_due = final_due_after c.args.invite c.args.code due b.final_due }) h c.set_branch_state.ensures.same
    (c.set_branch_state.ensures.changes rq (λ (b : TxnBranch). record b { final_due = final_due_after c.args.invite c.args.code due b.final_due })
    (λ b at. ap (λ (y : Option ℕ). branch_shown rq (record b { state = record c.in-Some.state { final_due = y } }))
    (c.final_due-state.ensures ∙ ap (λ (m : ℕ). final_due_after c.args.invite c.args.code m c.in-Some.state.final_due) is)
    ∙ put_state rq (slice_get t.branches.items c.args.n) c.in-Some.state (λ (s : BranchState). record s { final_due = final_due_after c.args.invite c.args.code due s.final_due })
    (λ (b : TxnBranch). record b { final_due = final_due_after c.args.invite c.args.code due b.final_due }) c.in-Some.ensures (λ b. refl) b at))
    c.set_branch_state.ensures.requests (c.set_branch_state.ensures.pools pool) c.set_branch_state.ensures.count

pub returns-in_default-clause-times : goal.returns-in_default-clause-times
returns-in_default-clause-times c = λ pool r d h.
    none_alone pool c.args.txn.now r c.args.self.now d c.args.n
    (λ (b : TxnBranch). record b { final_due = final_due_after c.args.invite c.args.code (moment_after d.now d.state.final_timers.invite) b.final_due }) h (none_is _ c.in_default.ensures)
