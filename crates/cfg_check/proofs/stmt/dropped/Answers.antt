use Rattle.cfg_tree.specs.declared.script.Stmt.TheVariants.{Drop}
use Rattle.cfg_check.proofs.Statements.{simple_follows}
use Rattle.cfg_check.proofs.stmt.dropped.Goals as goal

pub returns : goal.returns
returns c = simple_follows c.args.at Drop _ _ _ c.alone.result c.in_ok-within.ensures c.alone.ensures
