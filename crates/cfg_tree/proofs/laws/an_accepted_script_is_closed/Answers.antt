use Rattle.cfg_tree.proofs.ClosedScripts.{script_is_closed, script_has_kinds}
use Rattle.cfg_tree.proofs.laws.an_accepted_script_is_closed.Goals as goal

pub returns-clause-closed : goal.returns-clause-closed
returns-clause-closed c = λ raw script is. script_is_closed raw script is.stands_for

pub returns-clause-kinds : goal.returns-clause-kinds
returns-clause-kinds c = λ raw script is. script_has_kinds raw script is.stands_for
