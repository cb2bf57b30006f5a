-- What a script means: the dialogue of each of its blocks.
-- Each construct is told what comes after it, and says what is asked until then.
use Rattle.std.specs.Prelude.{ℕ, zero, suc, ℤ, pos, int_lt, Bool, true, false, not, if◌then◌else◌, List, [], ◌∷◌, ◌++◌, map, Option, Some, None, slice_get, slice_index_or, slice_set}
use Rattle.dialogue.specs.Talk.{Talk, Ends, Asks, Said, said}
use Rattle.pv_values.specs.declared.value.Val.{Val}
use Rattle.pv_values.specs.declared.value.Val.TheVariants.{Null, Int, Text}
use Rattle.pv_values.specs.declared.operator.BinOp.{BinOp}
use Rattle.pv_values.specs.declared.function.Func.{Func}
use Rattle.pv_values.specs.declared.variable.PvUse.{PvUse}
use Rattle.pv_values.specs.declared.variable.PvUse.TheVariants as pv
use Rattle.pv_values.specs.declared.run.Env.{Env}
use Rattle.pv_values.specs.declared.run.How.{How}
use Rattle.pv_values.specs.declared.run.How.TheVariants as how
use Rattle.pv_values.specs.declared.run.HostAsk.{HostAsk}
use Rattle.pv_values.specs.declared.run.HostAsk.TheVariants.{Read, Write, Call}
use Rattle.pv_values.specs.declared.run.HostAnswer.{HostAnswer}
use Rattle.pv_values.specs.Values.{text_of, is_true, limited, bit, same, binary_value, negated, code_of, told_value, told_code}
use Rattle.pv_values.specs.Matching.{matches_in}
use Rattle.cfg_tree.specs.Transformations.{transformed}
use Rattle.cfg_tree.specs.declared.script.TableUse.{TableUse}
use Rattle.cfg_tree.specs.declared.script.TableUse.TheVariants as table
use Rattle.cfg_tree.specs.declared.script.Part.{Part}
use Rattle.cfg_tree.specs.declared.script.Part.TheOpen.{Part-F}
use Rattle.cfg_tree.specs.declared.script.Part.TheFolds.{fold-Part}
use Rattle.cfg_tree.specs.declared.script.Expr.{Expr}
use Rattle.cfg_tree.specs.declared.script.Expr.TheOpen.{Expr-F}
use Rattle.cfg_tree.specs.declared.script.Expr.TheFolds.{fold-Expr}
use Rattle.cfg_tree.specs.declared.script.Target.{Target}
use Rattle.cfg_tree.specs.declared.script.Target.TheVariants as target
use Rattle.cfg_tree.specs.declared.script.Stmt.{Stmt}
use Rattle.cfg_tree.specs.declared.script.Stmt.TheOpen.{Stmt-F}
use Rattle.cfg_tree.specs.declared.script.Stmt.TheFolds.{fold-Stmt}
use Rattle.cfg_tree.specs.declared.script.Script.{Script}

-- ---- a run

-- how a run ends: with which variables, and how
pub record End : Type 0 where
  pub env : Env
  pub how : How

abbrev pub RunTalk : Type 0
RunTalk = Talk HostAsk HostAnswer End

-- what a run has at a moment: its variables, and how many statements it may still begin
pub record State : Type 0 where
  pub env : Env
  pub left : ℕ

abbrev pub ends : How → State → RunTalk
ends how s = Ends (record { env = s.env; how = how })

-- what comes after a value, a text, a list of values, a code
abbrev pub WithValue : Type 0
WithValue = Val → State → RunTalk

abbrev pub WithText : Type 0
WithText = List ℕ → State → RunTalk

abbrev pub WithValues : Type 0
WithValues = List Val → State → RunTalk

abbrev pub WithCode : Type 0
WithCode = ℤ → State → RunTalk

-- what something with a value does, given what comes after the value
abbrev pub Valued : Type 0
Valued = WithValue → State → RunTalk

abbrev pub put_var : State → ℕ → Val → State
put_var s x v = record s { env = record s.env { vars = slice_set s.env.vars x v } }

abbrev pub put_code : State → ℤ → State
put_code s n = record s { env = record s.env { rc = n } }

-- a statement is counted before it begins, and the one past the limit isn't begun
abbrev pub counted_from : ℕ → Env → (State → RunTalk) → RunTalk
counted_from zero env go = Ends (record { env = env; how = how.ActionLimit })
counted_from (suc left) env go = go (record { env = env; left = left })

abbrev pub counted : (State → RunTalk) → State → RunTalk
counted go s = counted_from s.left s.env go

-- a code of a function or a route is kept; 0 ends the run as `exit` does
abbrev pub settle : WithCode → WithCode
settle next (pos zero) s = ends how.Exit (put_code s (pos zero))
settle next n s = next n (put_code s n)

-- ---- variables and expanded texts

-- an item of a table, under its key
abbrev pub item_of : TableUse → ℕ → List ℕ → PvUse
item_of table.Item t key = pv.Item t key
item_of table.Seconds t key = pv.ItemSeconds t key
item_of table.Increment t key = pv.ItemIncrement t key
item_of table.Decrement t key = pv.ItemDecrement t key

-- the texts of the parts' values, one after another, after a text
abbrev pub texts_behind : List ℕ → List Valued → WithText → State → RunTalk
texts_behind front [] next = next front
texts_behind front (p ∷ ps) next = p (λ v. texts_behind (front ++ text_of v) ps next)

-- the value of an expanded text
abbrev pub expanded : List Valued → Valued
expanded parts next = texts_behind [] parts (λ t. next (limited t))

abbrev pub read_host : PvUse → Valued
read_host x next s = Asks (Read x) (λ answer. next (told_value answer) s)

-- what a part of an expanded text does; each variable is read as it is met
abbrev pub part_meaning_step : Part-F Valued → Valued
part_meaning_step (Part-F.Text t) next s = next (Text t) s
part_meaning_step (Part-F.Var x) next s = next (slice_index_or s.env.vars x Null) s
part_meaning_step Part-F.Code next s = next (Int s.env.rc) s
part_meaning_step (Part-F.Host x) next s = read_host x next s
part_meaning_step (Part-F.Item way t key) next s = expanded key (λ k. read_host (item_of way t (text_of k)) next) s
part_meaning_step (Part-F.Transformed tr p) next s = p (λ v. next (transformed tr v)) s

abbrev pub part_meaning : Part → Valued
part_meaning = fold-Part Valued part_meaning_step

abbrev pub expansion_of : List Part → Valued
expansion_of parts = expanded (map part_meaning parts)

-- ---- expressions

-- An expression is read for its value, or for its truth. They differ for a call alone: its value is its code, and it is
-- true where its code is above 0.
pub data Wanted : Type 0 where
  AsValue : Wanted
  AsTruth : Wanted

-- what an expression does
abbrev pub Meant : Type 0
Meant = Wanted → Valued

abbrev pub either_way : Valued → Meant
either_way m wanted = m

-- what a call of a block does, given what comes after its code
abbrev pub Routes : Type 0
Routes = ℕ → WithCode → State → RunTalk

-- something with a code: a function or a route
abbrev pub coded : (WithCode → State → RunTalk) → Meant
coded call AsValue next = counted (call (settle (λ n. next (Int n))))
coded call AsTruth next = counted (call (settle (λ n. next (bit (int_lt (pos 0) n)))))

-- the values of the expanded arguments, from left to right, after those before
abbrev pub arguments_behind : List Val → List (List Part) → WithValues → State → RunTalk
arguments_behind front [] next = next front
arguments_behind front (a ∷ more) next = expansion_of a (λ v. arguments_behind (front ++ v ∷ []) more next)

abbrev pub called : Func → List (List Part) → WithCode → State → RunTalk
called f args next = arguments_behind [] args (λ vs s. Asks (Call f vs) (λ answer. next (told_code answer) s))

-- a value, then each operand with the operator before it
abbrev pub linked : List (BinOp × Meant) → Val → Valued
linked [] x next = next x
linked (c ∷ cs) x next = c.1 AsValue (λ y. linked cs (binary_value c.0 x y) next)

-- `&&` and `||` give 1 or 0, and stop early
abbrev pub all_true : List Meant → Valued
all_true [] next = next (bit true)
all_true (m ∷ ms) next = m AsTruth (λ v s. if is_true v then all_true ms next s else next (bit false) s)

abbrev pub any_true : List Meant → Valued
any_true [] next = next (bit false)
any_true (m ∷ ms) next = m AsTruth (λ v s. if is_true v then next (bit true) s else any_true ms next s)

-- the pattern of this number matches in the value's text; Null never matches
abbrev pub matched : Option (List ℕ) → Val → Bool
matched None v = false
matched (Some source) Null = false
matched (Some source) (Int n) = matches_in source (text_of (Int n))
matched (Some source) (Text t) = matches_in source t

abbrev pub expr_meaning_step : Script → Routes → Expr-F Meant → Meant
expr_meaning_step script route (Expr-F.Int n) = either_way (λ next. next (Int n))
expr_meaning_step script route (Expr-F.Text t) = either_way (λ next. next (limited t))
expr_meaning_step script route (Expr-F.Read p) = either_way (part_meaning p)
expr_meaning_step script route (Expr-F.Call f args) = coded (called f args)
expr_meaning_step script route (Expr-F.Route block) = coded (route block)
expr_meaning_step script route (Expr-F.Not a) = either_way (λ next. a AsTruth (λ v. next (bit (not (is_true v)))))
expr_meaning_step script route (Expr-F.Negative a) = either_way (λ next. a AsValue (λ v. next (negated v)))
expr_meaning_step script route (Expr-F.Chain a cs) = either_way (λ next. a AsValue (λ x. linked cs x next))
expr_meaning_step script route (Expr-F.Matches a p) =
    either_way (λ next. a AsValue (λ v. next (bit (matched (slice_get script.patterns p) v))))
expr_meaning_step script route (Expr-F.All ms) = either_way (all_true ms)
expr_meaning_step script route (Expr-F.Any ms) = either_way (any_true ms)

abbrev pub expr_of : Script → Routes → Expr → Meant
expr_of script route = fold-Expr Meant (expr_meaning_step script route)

-- ---- statements

-- what comes after a statement: on to the next, out of the loop or switch, or back from the block with a code
pub record Ways : Type 0 where
  pub on : State → RunTalk
  pub out : State → RunTalk
  pub back : WithCode

-- what a statement does, given what comes after it
abbrev pub Made : Type 0
Made = Ways → State → RunTalk

-- one after another
abbrev pub in_order : List Made → Made
in_order [] ways = ways.on
in_order (m ∷ ms) ways = m (record ways { on = in_order ms ways })

-- a loop that may make so many rounds more; each test is counted
abbrev pub rounds : ℕ → Valued → Made → Made
rounds zero test body ways =
    counted (test (λ v s. if is_true v then ends how.LoopLimit s else ways.on s))
rounds (suc more) test body ways =
    counted (test (λ v s. if is_true v
    then body (record { on = rounds more test body ways; out = ways.on; back = ways.back }) s else ways.on s))

-- from one case on: its statements, those of the cases after it, and the default
abbrev pub onward : List (Val × List Made) → List Made → Made
onward [] default ways = in_order default ways
onward (c ∷ cs) default ways = in_order c.1 (record ways { on = onward cs default ways })

-- from the first case whose label equals the value on, and else the default
abbrev pub chosen : Val → List (Val × List Made) → List Made → Made
chosen v [] default ways = in_order default ways
chosen v (c ∷ cs) default ways = if same v c.0 then onward (c ∷ cs) default ways else chosen v cs default ways

abbrev pub write_host : PvUse → Val → (State → RunTalk) → State → RunTalk
write_host x v next s = Asks (Write x v) (λ answer. next s)

-- an assignment; a key is computed before the value
abbrev pub assigned : Target → Valued → (State → RunTalk) → State → RunTalk
assigned (target.Var x) value next = value (λ v s. next (put_var s x v))
assigned (target.Host x) value next = value (λ v. write_host x v next)
assigned (target.Item way t key) value next =
    expansion_of key (λ k. value (λ v. write_host (item_of way t (text_of k)) v next))

-- what a `return` gives back
abbrev pub returned : Script → Routes → Option Expr → WithCode → State → RunTalk
returned script route None back = back (pos 1)
returned script route (Some e) back = expr_of script route e AsValue (λ v. back (code_of v))

abbrev pub stmt_meaning_step : Script → Routes → Stmt-F Made → Made
stmt_meaning_step script route (Stmt-F.Set target e) ways = counted (assigned target (expr_of script route e AsValue) ways.on)
stmt_meaning_step script route (Stmt-F.Do e) ways = expr_of script route e AsValue (λ v. ways.on)
stmt_meaning_step script route (Stmt-F.If e first other) ways =
    counted (expr_of script route e AsTruth (λ v s. if is_true v then in_order first ways s else in_order other ways s))
stmt_meaning_step script route (Stmt-F.While e body) ways =
    rounds script.parameters.max_while_loops (expr_of script route e AsTruth) (in_order body) ways
stmt_meaning_step script route (Stmt-F.Switch e cases default) ways =
    counted (expr_of script route e AsValue (λ v. chosen v cases default (record ways { out = ways.on })))
stmt_meaning_step script route Stmt-F.Break ways = counted ways.out
stmt_meaning_step script route (Stmt-F.Return e) ways = counted (returned script route e ways.back)
stmt_meaning_step script route Stmt-F.Exit ways = counted (ends how.Exit)
stmt_meaning_step script route Stmt-F.Drop ways = counted (ends how.Drop)

abbrev pub stmt_of : Script → Routes → Stmt → Made
stmt_of script route = fold-Stmt Made (stmt_meaning_step script route)

-- ---- blocks

-- the statements of a block
abbrev pub block_meaning : Script → Routes → List Stmt → Made
block_meaning script route block = in_order (map (stmt_of script route) block)

-- the block of this number; one that isn't there is empty
abbrev pub block_at : Script → ℕ → List Stmt
block_at script b = slice_index_or script.blocks b []

-- a call of a block, where so many more may stand inside one another; without `return` its code is 1
abbrev pub routes_to : Script → ℕ → Routes
routes_to script zero block back = ends how.DepthLimit
routes_to script (suc deeper) block back =
    block_meaning script (routes_to script deeper) (block_at script block)
    (record { on = back (pos 1); out = back (pos 1); back = back })

-- how a run ends whose first block gives back this code
abbrev pub end_of : ℤ → How
end_of (pos zero) = how.Exit
end_of n = how.Return n

-- how many statements a run may begin
abbrev pub max_statements : ℕ
max_statements = 100000

-- the dialogue of a run of a block
abbrev pub dialogue : Script → ℕ → Env → RunTalk
dialogue script block env =
    block_meaning script (routes_to script script.parameters.max_recursive_level) (block_at script block)
    (record { on = ends how.Normal; out = ends how.Normal; back = λ n. ends (end_of n) })
    (record { env = env; left = max_statements })

-- what a run of a block comes to on these answers
abbrev pub meaning : Script → ℕ → Env → List HostAnswer → Said HostAsk HostAnswer End
meaning script block env = said (dialogue script block env)
