use Rattle.ht_core.proofs.Outcomes.{refusals}
use Rattle.ht_core.proofs.laws.a_refusal_changes_nothing.Goals as goal

pub returns : goal.returns
returns c = refusals
