use Rattle.txn_state.proofs.Changed.{beyond_at, put_at, same_pools, same_requests}
use Rattle.txn_state.proofs.changes.set_state.Goals as goal

pub returns-then-n-branches-clause-changes : goal.returns-then-n-branches-clause-changes
returns-then-n-branches-clause-changes c = λ request f h.
    put_at request c.args.branches.now c.from-n.result c.args.n c.index-branches-n.result c.args.state f c.from-n.ensures c.if-n-branches.true h

pub returns-then-n-branches-clause-requests : goal.returns-then-n-branches-clause-requests
returns-then-n-branches-clause-requests c = same_requests c.args.branches.now c.from-n.result c.index-branches-n.result c.args.state c.if-n-branches.true

pub returns-then-n-branches-clause-pools : goal.returns-then-n-branches-clause-pools
returns-then-n-branches-clause-pools c = λ pool h. same_pools c.args.branches.now c.from-n.result c.index-branches-n.result c.args.state pool c.if-n-branches.true h

pub returns-else-n-branches-clause-changes : goal.returns-else-n-branches-clause-changes
returns-else-n-branches-clause-changes c = λ request f h. beyond_at request c.args.branches.now c.from-n.result c.args.n f c.from-n.ensures c.if-n-branches.false
