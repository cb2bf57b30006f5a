use Rattle.std.proofs.Common.{subst, sym, List, ◌∙◌}
use Rattle.txn_state.specs.declared.branch.Branch.{Branch}
use Rattle.txn_state.specs.Kept.{AreOfPool}
use Rattle.txn_state.proofs.Changed.{items_back}
use Rattle.txn_state.proofs.txn.Txn.keep_response.Goals as goal

pub returns-clause-pools : goal.returns-clause-pools
returns-clause-pools c = λ pool h.
    subst (λ (bs : List Branch). AreOfPool pool bs) (sym (items_back _ _ _ (c.keep.ensures.count ∙ c.as_mut_slice.ensures.len)))
    (c.keep.ensures.pools pool (subst (λ (bs : List Branch). AreOfPool pool bs) (sym c.as_mut_slice.ensures.value) h))
