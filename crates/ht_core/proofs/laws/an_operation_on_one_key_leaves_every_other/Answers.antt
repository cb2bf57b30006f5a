use Rattle.ht_core.proofs.Outcomes.{keeps_others}
use Rattle.ht_core.proofs.laws.an_operation_on_one_key_leaves_every_other.Goals as goal

pub returns : goal.returns
returns c = keeps_others
