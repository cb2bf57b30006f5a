use Rattle.std.proofs.Common.{refl}
use Rattle.cfg_tree.specs.declared.script.Expr.TheFolds.{fold-roll-Expr}
use Rattle.cfg_tree.specs.declared.script.Stmt.TheFolds.{fold-roll-Stmt}
use Rattle.cfg_tree.proofs.laws.a_route_of_code_0_ends_the_run.Goals as goal

pub returns : goal.returns
returns c = rw (fold-roll-Stmt, fold-roll-Expr, fold-roll-Stmt, fold-roll-Expr) refl
