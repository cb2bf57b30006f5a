use Rattle.ht_core.proofs.Outcomes.{is_read}
use Rattle.ht_core.proofs.laws.an_item_is_read_until_its_life_has_passed.Goals as goal

pub returns : goal.returns
returns c = is_read
