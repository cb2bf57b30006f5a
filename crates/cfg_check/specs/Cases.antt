-- How a statement begins, the cases of a `switch`, and the `switch` itself.
use Rattle.std.specs.Prelude.{◌≡◌, Bool, List, [], ◌∷◌, map, Option}
use Rattle.pv_values.specs.declared.refusal.Place.{Place}
use Rattle.pv_values.specs.declared.value.Val.{Val}
use Rattle.cfg_tree.specs.declared.raw.RouteKind.{RouteKind}
use Rattle.cfg_tree.specs.declared.raw.RawExpr.{RawExpr}
use Rattle.cfg_tree.specs.declared.raw.RawStmt.{RawStmt}
use Rattle.cfg_tree.specs.declared.script.Expr.{Expr}
use Rattle.cfg_tree.specs.declared.script.Stmt.{Stmt}
use Rattle.cfg_tree.specs.declared.script.Stmt.TheOpen.{Stmt-F}
use Rattle.cfg_tree.specs.declared.script.Stmt.TheViews.{roll-Stmt}
use Rattle.cfg_tree.specs.Names.{Known}
use Rattle.cfg_tree.specs.Refusals.{Checked, join, one, three, each}
use Rattle.cfg_tree.specs.Checks.{expr_in, stmt_in, all_in, numbered}
use Rattle.cfg_calls.specs.Following.{CheckState, Follows, Counts, within_limit}

-- a statement was counted, then its expression was checked, and then a part of it: both are read, if it is within the limit
pub record Begins {X : Type 0} (known : Known) (kind : RouteKind) (at : Place) (e : RawExpr) (part : Checked X) (old : CheckState) (read : Option (Expr × X)) (new : CheckState) : Type 0 where
  pub within : Bool
  pub value : Option Expr
  pub second : Option X
  pub counted : CheckState
  pub tested : CheckState
  pub counts : Counts at old within counted
  pub tests : Follows (expr_in known kind e) counted value tested
  pub follows : Follows part tested second new
  pub read_is : read ≡ within_limit within (join (λ e x. (e, x)) value second)

-- a case with its label
abbrev pub case_in : Known → RouteKind → Val × List RawStmt → Checked (Val × List Stmt)
case_in known kind c = one (λ ss. (c.0, ss)) (all_in (map (stmt_in known kind) c.1))

abbrev pub cases_in : Known → RouteKind → List (Val × List RawStmt) → Checked (List (Val × List Stmt))
cases_in known kind cases = each (map (case_in known kind) cases)

abbrev pub switch_in : Known → RouteKind → Place → RawExpr → List (Val × List RawStmt) → List RawStmt → Checked (List Stmt)
switch_in known kind at e cases default = numbered at (
    three (λ e cs last. roll-Stmt (Stmt-F.Switch e cs last) ∷ []) (expr_in known kind e) (cases_in known kind cases)
    (all_in (map (stmt_in known kind) default)))
