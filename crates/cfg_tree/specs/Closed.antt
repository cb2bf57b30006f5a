-- A closed script: every number in it names something that is there.
use Rattle.std.specs.Prelude.{◌≡◌, ℕ, Bool, true, false, ◌==◌, ◌&&◌, nat_lt, IsTrue, List, map, length, Option, Some, None, slice_get}
use Rattle.std.specs.List.{list_all}
use Rattle.pv_values.specs.declared.value.Val.{Val}
use Rattle.pv_values.specs.declared.operator.BinOp.{BinOp}
use Rattle.pv_values.specs.declared.block.BlockKind.TheVariants.{Request, Branch, Failure, Reply}
use Rattle.pv_values.specs.declared.function.Func.{Func}
use Rattle.pv_values.specs.declared.function.Func.TheVariants as func
use Rattle.pv_values.specs.declared.variable.PvUse.{PvUse}
use Rattle.pv_values.specs.declared.variable.PvUse.TheVariants as pv
use Rattle.pv_values.specs.declared.run.HostAsk.{HostAsk}
use Rattle.pv_values.specs.declared.run.HostAsk.TheVariants as ask
use Rattle.cfg_tree.specs.declared.raw.RouteKind.{RouteKind}
use Rattle.cfg_tree.specs.declared.raw.RouteKind.TheVariants.{Route, Begins}
use Rattle.cfg_tree.specs.declared.raw.RawScript.{RawScript}
use Rattle.cfg_tree.specs.declared.script.Part.{Part}
use Rattle.cfg_tree.specs.declared.script.Part.TheOpen.{Part-F}
use Rattle.cfg_tree.specs.declared.script.Part.TheFolds.{fold-Part}
use Rattle.cfg_tree.specs.declared.script.Expr.{Expr}
use Rattle.cfg_tree.specs.declared.script.Expr.TheOpen.{Expr-F}
use Rattle.cfg_tree.specs.declared.script.Expr.TheFolds.{fold-Expr}
use Rattle.cfg_tree.specs.declared.script.Target.{Target}
use Rattle.cfg_tree.specs.declared.script.Target.TheVariants as target
use Rattle.cfg_tree.specs.declared.script.Stmt.{Stmt}
use Rattle.cfg_tree.specs.declared.script.Stmt.TheOpen.{Stmt-F}
use Rattle.cfg_tree.specs.declared.script.Stmt.TheFolds.{fold-Stmt}
use Rattle.cfg_tree.specs.declared.script.Script.{Script}
use Rattle.cfg_tree.specs.Functions.{kind_number}
use Rattle.cfg_tree.specs.Checks.{known_of}

-- what numbers may name: a block of a kind, one of so many patterns, tables and names of `$var`
pub record Names : Type 0 where
  pub has_block : RouteKind → ℕ → Bool
  pub patterns : ℕ
  pub tables : ℕ
  pub vars : ℕ

-- ---- variables and functions of the host

abbrev pub closed_use : Names → PvUse → Bool
closed_use names (pv.Item t key) = nat_lt t names.tables
closed_use names (pv.ItemSeconds t key) = nat_lt t names.tables
closed_use names (pv.ItemIncrement t key) = nat_lt t names.tables
closed_use names (pv.ItemDecrement t key) = nat_lt t names.tables
closed_use names x = true

abbrev pub closed_func : Names → Func → Bool
closed_func names (func.TOnBranch b) = names.has_block (Begins Branch) b
closed_func names (func.TOnFailure b) = names.has_block (Begins Failure) b
closed_func names (func.TOnReply b) = names.has_block (Begins Reply) b
closed_func names (func.TContinue b) = names.has_block Route b
closed_func names (func.TCheckStatus p) = nat_lt p names.patterns
closed_func names (func.ShtRmNameRe t p) = nat_lt t names.tables && nat_lt p names.patterns
closed_func names (func.ShtReset t) = nat_lt t names.tables
closed_func names f = true

-- ---- the language

abbrev pub all_closed : List Bool → Bool
all_closed = list_all (λ b. b)

abbrev pub closed_part_step : Names → Part-F Bool → Bool
closed_part_step names (Part-F.Text t) = true
closed_part_step names (Part-F.Var x) = nat_lt x names.vars
closed_part_step names Part-F.Code = true
closed_part_step names (Part-F.Host x) = closed_use names x
closed_part_step names (Part-F.Item way t key) = nat_lt t names.tables && all_closed key
closed_part_step names (Part-F.Transformed tr p) = p

abbrev pub closed_part : Names → Part → Bool
closed_part names = fold-Part Bool (closed_part_step names)

abbrev pub closed_parts : Names → List Part → Bool
closed_parts names = list_all (closed_part names)

abbrev pub closed_expr_step : Names → Expr-F Bool → Bool
closed_expr_step names (Expr-F.Int n) = true
closed_expr_step names (Expr-F.Text t) = true
closed_expr_step names (Expr-F.Read p) = closed_part names p
closed_expr_step names (Expr-F.Call f args) = closed_func names f && list_all (closed_parts names) args
closed_expr_step names (Expr-F.Route block) = names.has_block Route block
closed_expr_step names (Expr-F.Not a) = a
closed_expr_step names (Expr-F.Negative a) = a
closed_expr_step names (Expr-F.Chain a links) = a && list_all (λ (l : BinOp × Bool). l.1) links
closed_expr_step names (Expr-F.Matches a p) = a && nat_lt p names.patterns
closed_expr_step names (Expr-F.All ms) = all_closed ms
closed_expr_step names (Expr-F.Any ms) = all_closed ms

abbrev pub closed_expr : Names → Expr → Bool
closed_expr names = fold-Expr Bool (closed_expr_step names)

abbrev pub closed_target : Names → Target → Bool
closed_target names (target.Var x) = nat_lt x names.vars
closed_target names (target.Host x) = closed_use names x
closed_target names (target.Item way t key) = nat_lt t names.tables && closed_parts names key

abbrev pub closed_result : Names → Option Expr → Bool
closed_result names None = true
closed_result names (Some e) = closed_expr names e

abbrev pub closed_stmt_step : Names → Stmt-F Bool → Bool
closed_stmt_step names (Stmt-F.Set t e) = closed_target names t && closed_expr names e
closed_stmt_step names (Stmt-F.Do e) = closed_expr names e
closed_stmt_step names (Stmt-F.If e first other) = closed_expr names e && all_closed first && all_closed other
closed_stmt_step names (Stmt-F.While e body) = closed_expr names e && all_closed body
closed_stmt_step names (Stmt-F.Switch e cases default) =
    closed_expr names e && list_all (λ (c : Val × List Bool). all_closed c.1) cases && all_closed default
closed_stmt_step names Stmt-F.Break = true
closed_stmt_step names (Stmt-F.Return e) = closed_result names e
closed_stmt_step names Stmt-F.Exit = true
closed_stmt_step names Stmt-F.Drop = true

abbrev pub closed_stmt : Names → Stmt → Bool
closed_stmt names = fold-Stmt Bool (closed_stmt_step names)

abbrev pub closed_block : Names → List Stmt → Bool
closed_block names = list_all (closed_stmt names)

-- ---- the script

abbrev pub closed_reply : Names → Option ℕ → Bool
closed_reply names None = true
closed_reply names (Some b) = names.has_block (Begins Reply) b

-- every number of a script names something: in its blocks, and those of the request and the reply block
abbrev pub closed_in : Names → Script → Bool
closed_in names script =
    names.has_block (Begins Request) script.request && closed_reply names script.reply
    && list_all (closed_block names) script.blocks

-- what there is where blocks are these: the patterns, tables and names of `$var` of the script
abbrev pub names_with : (RouteKind → ℕ → Bool) → Script → Names
names_with has_block script = record {
  has_block = has_block;
  patterns = length script.patterns;
  tables = length script.tables;
  vars = script.vars;
}

-- a block of this number, of whatever kind
abbrev pub is_below : ℕ → RouteKind → ℕ → Bool
is_below count kind b = nat_lt b count

abbrev pub is_kind : RouteKind → Option RouteKind → Bool
is_kind kind None = false
is_kind kind (Some k) = kind_number kind == kind_number k

-- a block of this kind and number, where blocks have these kinds
abbrev pub is_block_of : List RouteKind → RouteKind → ℕ → Bool
is_block_of kinds kind b = is_kind kind (slice_get kinds b)

-- the script is closed
abbrev pub IsClosed : Script → Type 0
IsClosed script = IsTrue (closed_in (names_with (is_below (length script.blocks)) script) script)

-- the script is closed, and each block that is named is of the right kind, where its blocks have these kinds
pub record IsClosedWith (kinds : List RouteKind) (script : Script) : Type 0 where
  pub each_has : length kinds ≡ length script.blocks
  pub closed : IsTrue (closed_in (names_with (is_block_of kinds) script) script)

-- the kinds of a tree's blocks, in order
abbrev pub block_kinds : RawScript → List RouteKind
block_kinds raw = map (λ b. b.0) (known_of raw).blocks

-- ---- what a run asks

abbrev pub closed_ask : Names → HostAsk → Bool
closed_ask names (ask.Read x) = closed_use names x
closed_ask names (ask.Write x v) = closed_use names x
closed_ask names (ask.Call f arguments) = closed_func names f
