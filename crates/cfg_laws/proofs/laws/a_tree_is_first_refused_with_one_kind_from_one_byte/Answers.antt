use Rattle.cfg_laws.proofs.Firsts.{one_first}
use Rattle.cfg_laws.proofs.laws.a_tree_is_first_refused_with_one_kind_from_one_byte.Goals as goal

pub returns : goal.returns
returns c = one_first
