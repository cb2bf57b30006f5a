use Rattle.txn_dialogue.specs.Slots.{TxnBranch}
use Rattle.std.specs.Prelude.{option_map}
use Rattle.txn_state.proofs.Changed.{beyond_at, changed_at, put_requests, put_pools}
use Rattle.txn_state.proofs.changes.keep.Goals as goal

pub returns-then-n-branches-clause-keeps : goal.returns-then-n-branches-clause-keeps
returns-then-n-branches-clause-keeps c = λ request.
    changed_at request c.args.branches.now c.from-n.result c.args.n _ c.index-branches-n.result (λ (b : TxnBranch). record b { kept = option_map (λ t. t.now) c.args.text }) c.from-n.ensures c.if-n-branches.true (c.keep.ensures.keeps request)

pub returns-then-n-branches-clause-requests : goal.returns-then-n-branches-clause-requests
returns-then-n-branches-clause-requests c = put_requests c.args.branches.now c.from-n.result _ c.index-branches-n.result c.if-n-branches.true c.keep.ensures.request

pub returns-then-n-branches-clause-pools : goal.returns-then-n-branches-clause-pools
returns-then-n-branches-clause-pools c = λ pool h. put_pools c.args.branches.now c.from-n.result _ c.index-branches-n.result pool c.if-n-branches.true c.keep.ensures.request c.keep.ensures.pool h

pub returns-else-n-branches-clause-keeps : goal.returns-else-n-branches-clause-keeps
returns-else-n-branches-clause-keeps c = λ request. beyond_at request c.args.branches.now c.from-n.result c.args.n (λ (b : TxnBranch). record b { kept = option_map (λ t. t.now) c.args.text }) c.from-n.ensures c.if-n-branches.false
