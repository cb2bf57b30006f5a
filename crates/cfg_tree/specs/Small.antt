-- Small scripts, whose meaning is known.
use Rattle.std.specs.Prelude.{ℕ, pos, List, [], ◌∷◌, Some, None, codes}
use Rattle.pv_values.specs.declared.value.Val.{Val}
use Rattle.pv_values.specs.declared.value.Val.TheVariants.{Int}
use Rattle.pv_values.specs.declared.operator.BinOp.TheVariants.{Add, Rem, Eq, Lt}
use Rattle.pv_values.specs.declared.function.Func.TheVariants.{TRelay, Xlog}
use Rattle.pv_values.specs.declared.variable.PvUse.TheVariants as pv
use Rattle.pv_values.specs.declared.run.Env.{Env}
use Rattle.pv_values.specs.declared.run.How.{How}
use Rattle.pv_values.specs.declared.run.HostAsk.{HostAsk}
use Rattle.pv_values.specs.declared.run.HostAnswer.{HostAnswer}
use Rattle.dialogue.specs.Talk.{Said, Ended}
use Rattle.cfg_tree.specs.Meaning.{End}
use Rattle.cfg_tree.specs.declared.script.Part.TheOpen.{Part-F}
use Rattle.cfg_tree.specs.declared.script.Part.TheViews.{roll-Part}
use Rattle.cfg_tree.specs.declared.script.Expr.{Expr}
use Rattle.cfg_tree.specs.declared.script.Expr.TheOpen.{Expr-F}
use Rattle.cfg_tree.specs.declared.script.Expr.TheViews.{roll-Expr}
use Rattle.cfg_tree.specs.declared.script.Target.TheVariants as target
use Rattle.cfg_tree.specs.declared.script.Stmt.{Stmt}
use Rattle.cfg_tree.specs.declared.script.Stmt.TheOpen.{Stmt-F}
use Rattle.cfg_tree.specs.declared.script.Stmt.TheViews.{roll-Stmt}
use Rattle.cfg_tree.specs.declared.script.Script.{Script}

-- a int_expr, the first `$var`, and what is written of them
abbrev pub int_expr : ℕ → Expr
int_expr n = roll-Expr (Expr-F.Int (pos n))

abbrev pub var : ℕ → Expr
var x = roll-Expr (Expr-F.Read (roll-Part (Part-F.Var x)))

abbrev pub set_var : ℕ → Expr → Stmt
set_var x e = roll-Stmt (Stmt-F.Set (target.Var x) e)

-- a script of these blocks with one name of `$var`, the default limits, and this one on the depth of calls
abbrev pub script_within : ℕ → List (List Stmt) → Script
script_within level blocks = record {
  blocks = blocks;
  request = 0;
  reply = None;
  vars = 1;
  patterns = [];
  tables = [];
  parameters = record {
    listen = None;
    aliases = [];
    max_while_loops = 100;
    max_recursive_level = level;
    fr_timer = 30000;
    fr_inv_timer = 120000;
  };
}

-- the same with the default limit
abbrev pub small_script : List (List Stmt) → Script
small_script = script_within 256

-- what a run has at its start
abbrev pub start : Env
start = record { vars = Int (pos 0) ∷ []; rc = pos 0 }

-- it ended so, with this in its one variable, and took every answer
abbrev pub ended : Val → How → Said HostAsk HostAnswer End
ended v how = Ended (record { env = record { vars = v ∷ []; rc = pos 0 }; how = how }) []

-- `$var(a) = -7 mod 2;`
abbrev pub rest_of_seven : Script
rest_of_seven = small_script ((set_var 0 (roll-Expr (Expr-F.Chain (roll-Expr (Expr-F.Negative (int_expr 7))) ((Rem, int_expr 2) ∷ []))) ∷ []) ∷ [])

-- `$var(i) = 0; while ($var(i) < N) { $var(i) = $var(i) + 1; }`
abbrev pub counts_to : ℕ → Script
counts_to n = small_script ((set_var 0 (int_expr 0)
    ∷ roll-Stmt (Stmt-F.While (roll-Expr (Expr-F.Chain (var 0) ((Lt, int_expr n) ∷ [])))
    (set_var 0 (roll-Expr (Expr-F.Chain (var 0) ((Add, int_expr 1) ∷ []))) ∷ [])) ∷ []) ∷ [])

-- `route(Z); $var(a) = 1;` with `route[Z] { return 0; }`
abbrev pub route_of_0 : Script
route_of_0 = small_script ((roll-Stmt (Stmt-F.Do (roll-Expr (Expr-F.Route 1))) ∷ set_var 0 (int_expr 1) ∷ [])
    ∷ (roll-Stmt (Stmt-F.Return (Some (int_expr 0))) ∷ []) ∷ [])

-- `if (9223372036854775807 + 1 == $null) $var(a) = 1;`
abbrev pub sum_past_the_end : Script
sum_past_the_end = small_script ((roll-Stmt (Stmt-F.If (roll-Expr (Expr-F.Chain
    (roll-Expr (Expr-F.Chain (int_expr 9223372036854775807) ((Add, int_expr 1) ∷ [])))
    ((Eq, roll-Expr (Expr-F.Read (roll-Part (Part-F.Host pv.Null)))) ∷ [])))
    (set_var 0 (int_expr 1) ∷ []) []) ∷ []) ∷ [])

-- `route(D);` with `route[D] { $var(d) = $var(d) + 1; route(D); }`, where calls may be nested twice
abbrev pub calls_itself : Script
calls_itself = script_within 2 ((call ∷ []) ∷ (set_var 0 (roll-Expr (Expr-F.Chain (var 0) ((Add, int_expr 1) ∷ []))) ∷ call ∷ []) ∷ [])
  where
    call : Stmt
    call = roll-Stmt (Stmt-F.Do (roll-Expr (Expr-F.Route 1)))

-- `switch (2) { case 1: $var(a) = 1; case 2: $var(a) = 2; case 3: $var(a) = $var(a) + 5; break; default: $var(a) = 9; }`
abbrev pub falls_through : Script
falls_through = small_script ((roll-Stmt (Stmt-F.Switch (int_expr 2)
    ((Int (pos 1), set_var 0 (int_expr 1) ∷ []) ∷ (Int (pos 2), set_var 0 (int_expr 2) ∷ [])
    ∷ (Int (pos 3), set_var 0 (roll-Expr (Expr-F.Chain (var 0) ((Add, int_expr 5) ∷ []))) ∷ roll-Stmt Stmt-F.Break ∷ []) ∷ [])
    (set_var 0 (int_expr 9) ∷ [])) ∷ []) ∷ [])

-- `if (0 && t_relay()) $var(a) = 1;`
abbrev pub stops_early : Script
stops_early = small_script ((roll-Stmt (Stmt-F.If (roll-Expr (Expr-F.All (int_expr 0 ∷ roll-Expr (Expr-F.Call TRelay []) ∷ [])))
    (set_var 0 (int_expr 1) ∷ []) []) ∷ []) ∷ [])

-- `xlog("$ci-$$");`
abbrev pub logs_a_text : Script
logs_a_text = small_script ((roll-Stmt (Stmt-F.Do (roll-Expr (Expr-F.Call Xlog
    ((roll-Part (Part-F.Host pv.CallId) ∷ roll-Part (Part-F.Text (codes "-")) ∷ roll-Part (Part-F.Text (codes "$")) ∷ []) ∷ [])))) ∷ []) ∷ [])
