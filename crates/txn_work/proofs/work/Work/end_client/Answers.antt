use Rattle.std.proofs.Common.{None, refl, ap, ◌∙◌}
use Rattle.std.specs.Prelude.{slice_get}
use Rattle.txn_client.specs.declared.machine.Client.{Client}
use Rattle.txn_dialogue.specs.Slots.{TxnBranch}
use Rattle.txn_state.specs.declared.branch.BranchState.{BranchState}
use Rattle.txn_state.specs.Kept.{branch_shown}
use Rattle.txn_work.specs.Works.{request_in}
use Rattle.txn_work.proofs.Shown.{branch_alone}
use Rattle.txn_work.proofs.Branches.{none_alone, none_is, put_state}
use Rattle.txn_client.specs.Rows.{client_over}
use Rattle.txn_work.proofs.work.Work.end_client.Goals as goal

pub returns-in-Some-clause-ends : goal.returns-in-Some-clause-ends
returns-in-Some-clause-ends c = λ pool r d h.
    let t = c.args.txn.now in
    let rq = request_in t r in
    branch_alone pool t _ r c.args.self.now d c.args.n (λ (b : TxnBranch). record b { client = client_over b.client; final_due = None }) h c.set_branch_state.ensures.same
    (c.set_branch_state.ensures.changes rq (λ (b : TxnBranch). record b { client = client_over b.client; final_due = None })
    (λ b at. ap (λ (y : Client). branch_shown rq (record b { state = record c.in-Some.state { client = y; final_due = None } })) c.over-state.ensures
    ∙ put_state rq (slice_get t.branches.items c.args.n) c.in-Some.state (λ (s : BranchState). record s { client = client_over s.client; final_due = None })
    (λ (b : TxnBranch). record b { client = client_over b.client; final_due = None }) c.in-Some.ensures (λ b. refl) b at))
    c.set_branch_state.ensures.requests (c.set_branch_state.ensures.pools pool) c.set_branch_state.ensures.count

pub returns-in_default-clause-ends : goal.returns-in_default-clause-ends
returns-in_default-clause-ends c = λ pool r d h.
    none_alone pool c.args.txn.now r c.args.self.now d c.args.n (λ (b : TxnBranch). record b { client = client_over b.client; final_due = None }) h (none_is _ c.in_default.ensures)
