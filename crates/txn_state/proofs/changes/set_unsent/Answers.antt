use Rattle.std.proofs.Common.{refl, Some}
use Rattle.txn_dialogue.specs.Slots.{TxnBranch}
use Rattle.txn_state.proofs.Changed.{changed_at, beyond_at}
use Rattle.txn_state.proofs.changes.set_unsent.Goals as goal

pub returns-then-n-branches : goal.returns-then-n-branches
returns-then-n-branches c = λ request.
    changed_at request c.args.branches.now c.from-n.result c.args.n _ c.index-branches-n.result (λ (b : TxnBranch). record b { unsent_due = Some c.args.now }) c.from-n.ensures c.if-n-branches.true refl

pub returns-else-n-branches : goal.returns-else-n-branches
returns-else-n-branches c = λ request.
    beyond_at request c.args.branches.now c.from-n.result c.args.n (λ (b : TxnBranch). record b { unsent_due = Some c.args.now }) c.from-n.ensures c.if-n-branches.false
