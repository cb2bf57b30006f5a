use Rattle.std.proofs.Common.{true, refl}
use Rattle.std.specs.Prelude.{slice_get}
use Rattle.txn_dialogue.specs.Slots.{TxnBranch}
use Rattle.txn_state.specs.declared.branch.BranchState.{BranchState}
use Rattle.txn_work.specs.Works.{request_in}
use Rattle.txn_work.proofs.Shown.{branch_alone}
use Rattle.txn_work.proofs.Branches.{none_alone, none_is, put_state}
use Rattle.txn_work.proofs.work.Work.mark_cancelled.Goals as goal

pub returns-in-Some-clause-marks : goal.returns-in-Some-clause-marks
returns-in-Some-clause-marks c = λ pool r d h.
    let t = c.args.txn.now in
    let rq = request_in t r in
    branch_alone pool t _ r c.args.self.now d c.args.n (λ (b : TxnBranch). record b { is_cancelled = true }) h c.set_branch_state.ensures.same
    (c.set_branch_state.ensures.changes rq (λ (b : TxnBranch). record b { is_cancelled = true })
    (put_state rq (slice_get t.branches.items c.args.n) c.in-Some.state (λ (s : BranchState). record s { is_cancelled = true })
    (λ (b : TxnBranch). record b { is_cancelled = true }) c.in-Some.ensures (λ b. refl)))
    c.set_branch_state.ensures.requests (c.set_branch_state.ensures.pools pool) c.set_branch_state.ensures.count

pub returns-in_default-clause-marks : goal.returns-in_default-clause-marks
returns-in_default-clause-marks c = λ pool r d h. none_alone pool c.args.txn.now r c.args.self.now d c.args.n (λ (b : TxnBranch). record b { is_cancelled = true }) h (none_is _ c.in_default.ensures)
