use Rattle.std.proofs.Common.{refl}
use Rattle.cfg_tree.specs.declared.script.Part.TheFolds.{fold-roll-Part}
use Rattle.cfg_tree.specs.declared.script.Expr.TheFolds.{fold-roll-Expr}
use Rattle.cfg_tree.specs.declared.script.Stmt.TheFolds.{fold-roll-Stmt}
use Rattle.cfg_tree.proofs.laws.a_text_is_expanded_from_left_to_right.Goals as goal

pub returns-clause-asked : goal.returns-clause-asked
returns-clause-asked c = rw (fold-roll-Stmt, fold-roll-Expr, fold-roll-Part) refl

pub returns-clause-called : goal.returns-clause-called
returns-clause-called c = rw (fold-roll-Stmt, fold-roll-Expr, fold-roll-Part, fold-roll-Part, fold-roll-Part) refl
