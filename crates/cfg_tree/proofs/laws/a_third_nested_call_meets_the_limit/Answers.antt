use Rattle.std.proofs.Common.{refl}
use Rattle.cfg_tree.specs.declared.script.Part.TheFolds.{fold-roll-Part}
use Rattle.cfg_tree.specs.declared.script.Expr.TheFolds.{fold-roll-Expr}
use Rattle.cfg_tree.specs.declared.script.Stmt.TheFolds.{fold-roll-Stmt}
use Rattle.cfg_tree.proofs.laws.a_third_nested_call_meets_the_limit.Goals as goal

pub returns : goal.returns
returns c = rw (fold-roll-Stmt, fold-roll-Expr, fold-roll-Stmt, fold-roll-Expr, fold-roll-Expr, fold-roll-Part, fold-roll-Expr, fold-roll-Stmt, fold-roll-Expr, fold-roll-Stmt, fold-roll-Expr, fold-roll-Expr, fold-roll-Part, fold-roll-Expr, fold-roll-Stmt, fold-roll-Expr) refl
