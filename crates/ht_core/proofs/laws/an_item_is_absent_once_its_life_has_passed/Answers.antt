use Rattle.ht_core.proofs.Outcomes.{is_absent}
use Rattle.ht_core.proofs.laws.an_item_is_absent_once_its_life_has_passed.Goals as goal

pub returns : goal.returns
returns c = is_absent
