use Rattle.cfg_tree.specs.declared.script.Stmt.TheVariants.{Break}
use Rattle.cfg_check.proofs.Statements.{simple_follows}
use Rattle.cfg_check.proofs.stmt.broken.Goals as goal

pub returns : goal.returns
returns c = simple_follows c.args.at Break _ _ _ c.alone.result c.in_ok-within.ensures c.alone.ensures
