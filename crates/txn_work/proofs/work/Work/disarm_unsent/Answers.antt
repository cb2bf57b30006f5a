use Rattle.std.proofs.Common.{refl, None}
use Rattle.std.specs.Prelude.{slice_get}
use Rattle.txn_dialogue.specs.Slots.{TxnBranch}
use Rattle.txn_state.specs.declared.branch.BranchState.{BranchState}
use Rattle.txn_work.specs.Works.{request_in}
use Rattle.txn_work.proofs.Shown.{branch_alone}
use Rattle.txn_work.proofs.Branches.{none_alone, none_is, put_state}
use Rattle.txn_work.proofs.work.Work.disarm_unsent.Goals as goal

pub returns-in-Some-clause-disarms : goal.returns-in-Some-clause-disarms
returns-in-Some-clause-disarms c = λ pool r d h.
    branch_alone pool c.args.txn.now _ r c.args.self.now d c.args.n (λ (b : TxnBranch). record b { unsent_due = None }) h c.set_branch_state.ensures.same
    (c.set_branch_state.ensures.changes (request_in c.args.txn.now r) (λ (b : TxnBranch). record b { unsent_due = None })
    (put_state (request_in c.args.txn.now r) (slice_get c.args.txn.now.branches.items c.args.n) c.in-Some.state (λ (s : BranchState). record s { unsent_due = None }) (λ (b : TxnBranch). record b { unsent_due = None }) c.in-Some.ensures (λ b. refl)))
    c.set_branch_state.ensures.requests (c.set_branch_state.ensures.pools pool) c.set_branch_state.ensures.count

pub returns-in_default-clause-disarms : goal.returns-in_default-clause-disarms
returns-in_default-clause-disarms c = λ pool r d h. none_alone pool c.args.txn.now r c.args.self.now d c.args.n (λ (b : TxnBranch). record b { unsent_due = None }) h (none_is _ c.in_default.ensures)
