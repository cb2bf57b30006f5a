use Rattle.cfg_tree.specs.declared.script.Stmt.TheVariants.{Exit}
use Rattle.cfg_check.proofs.Statements.{simple_follows}
use Rattle.cfg_check.proofs.stmt.exit.Goals as goal

pub returns : goal.returns
returns c = simple_follows c.args.at Exit _ _ _ c.alone.result c.in_ok-within.ensures c.alone.ensures
