use Rattle.cfg_check.proofs.ValuedScripts.{unrefused_stands}
use Rattle.cfg_check.proofs.laws.an_unrefused_tree_is_a_script.Goals as goal

pub returns : goal.returns
returns c = unrefused_stands
