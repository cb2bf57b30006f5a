use Rattle.std.proofs.Common.{◌∙◌, refl}
use Rattle.fork_core.proofs.Standing.{counts, refilled_set}
use Rattle.fork_core.proofs.context.Context.count.Goals as goal

pub returns-clause-lists : goal.returns-clause-lists
returns-clause-lists c = λ h answered s.
    counts _ _ _ _ _ h s c.requires refl refl (refilled_set _ _ _ _ c.deref_mut.ensures.value ∙ cc)
