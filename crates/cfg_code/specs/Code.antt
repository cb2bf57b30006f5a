-- The instructions that stand for a tree. The text of a tree is made of the texts of its parts.
use Rattle.std.specs.Prelude.{pos, true, false, ◌+◌, List, [], ◌∷◌, ◌++◌, length, map, Option, Some, None}
use Rattle.pv_values.specs.declared.value.Val.{Val}
use Rattle.pv_values.specs.declared.value.Val.TheVariants as val
use Rattle.pv_values.specs.declared.operator.BinOp.{BinOp}
use Rattle.pv_values.specs.Values.{limited, bit}
use Rattle.cfg_tree.specs.declared.script.Part.{Part}
use Rattle.cfg_tree.specs.declared.script.Part.TheOpen.{Part-F}
use Rattle.cfg_tree.specs.declared.script.Part.TheFolds.{fold-Part}
use Rattle.cfg_tree.specs.declared.script.Expr.{Expr}
use Rattle.cfg_tree.specs.declared.script.Expr.TheOpen.{Expr-F}
use Rattle.cfg_tree.specs.declared.script.Expr.TheFolds.{fold-Expr}
use Rattle.cfg_tree.specs.declared.script.Target.{Target}
use Rattle.cfg_tree.specs.declared.script.Target.TheVariants as target
use Rattle.cfg_tree.specs.declared.script.Stmt.{Stmt}
use Rattle.cfg_tree.specs.declared.script.Stmt.TheOpen.{Stmt-F}
use Rattle.cfg_tree.specs.declared.script.Stmt.TheFolds.{fold-Stmt}
use Rattle.cfg_tree.specs.Meaning.{Wanted, AsValue, AsTruth}
use Rattle.cfg_code.specs.declared.instr.Instr.{Instr}
use Rattle.cfg_code.specs.declared.instr.Instr.TheVariants.{Push, Load, LoadCode, LoadSuccess, Store, Read, ReadItem, Write, WriteItem, Transform, Concat, PushArgument, CallFunction, ExitOnZero, CallBlock, Binary, Negate, Not, ToBool, Match, JumpIfFalseOrPop, JumpIfTrueOrPop, Pop, CountStatement, JumpIfFalse, Jump, Case, BeginLoop, BeginRound, LoopBack, EndLoop, Break, Return, Exit, Drop, EndBlock}

abbrev pub Text : Type 0
Text = List Instr

-- one text after another
abbrev pub texts_joined : List Text → Text
texts_joined [] = []
texts_joined (t ∷ ts) = t ++ texts_joined ts

-- ---- expanded texts

-- a part, whose text is put after the text on the stack
abbrev pub concat_text : Text → Text
concat_text part = part ++ Concat ∷ []

abbrev pub concats : List Text → Text
concats [] = []
concats (p ∷ ps) = concat_text p ++ concats ps

-- an expanded text: the empty text, and each part after it
abbrev pub expansion_text : List Text → Text
expansion_text parts = Push (val.Text []) ∷ concats parts

abbrev pub part_text : Part-F Text → Text
part_text (Part-F.Text t) = Push (val.Text t) ∷ []
part_text (Part-F.Var x) = Load x ∷ []
part_text Part-F.Code = LoadCode ∷ []
part_text (Part-F.Host x) = Read x ∷ []
part_text (Part-F.Item way t key) = expansion_text key ++ ReadItem way t ∷ []
part_text (Part-F.Transformed tr p) = p ++ Transform tr ∷ []

abbrev pub part_code : Part → Text
part_code = fold-Part Text part_text

abbrev pub concats_code : List Part → Text
concats_code parts = concats (map part_code parts)

abbrev pub expansion_code : List Part → Text
expansion_code parts = expansion_text (map part_code parts)

-- ---- expressions

-- the code of a call that was made, as a value or as its truth
abbrev pub wanted_text : Wanted → Instr
wanted_text AsValue = LoadCode
wanted_text AsTruth = LoadSuccess

-- a call is counted, then made, and its code 0 ends the run
abbrev pub called_text : Text → Wanted → Text
called_text call wanted = CountStatement ∷ (call ++ ExitOnZero ∷ wanted_text wanted ∷ [])

abbrev pub argument_text : Text → Text
argument_text a = a ++ PushArgument ∷ []

abbrev pub arguments_code : List (List Part) → Text
arguments_code [] = []
arguments_code (a ∷ more) = argument_text (expansion_code a) ++ arguments_code more

-- an operand, and the operator before it
abbrev pub link_text : BinOp → Text → Text
link_text op b = b ++ Binary op ∷ []

abbrev pub links_text : List (BinOp × (Wanted → Text)) → Text
links_text [] = []
links_text (c ∷ cs) = link_text c.0 (c.1 AsValue) ++ links_text cs

-- after a 1 or 0: an operand of `&&`, which is passed after a 0
abbrev pub and_text : Text → Text
and_text a = JumpIfFalseOrPop (length a + 1) ∷ (a ++ ToBool ∷ [])

abbrev pub ands_text : List (Wanted → Text) → Text
ands_text [] = []
ands_text (a ∷ more) = and_text (a AsTruth) ++ ands_text more

-- an operand of `||`, which is passed after a 1
abbrev pub or_text : Text → Text
or_text a = JumpIfTrueOrPop (length a + 1) ∷ (a ++ ToBool ∷ [])

abbrev pub ors_text : List (Wanted → Text) → Text
ors_text [] = []
ors_text (a ∷ more) = or_text (a AsTruth) ++ ors_text more

abbrev pub expr_text : Expr-F (Wanted → Text) → Wanted → Text
expr_text (Expr-F.Int n) wanted = Push (val.Int n) ∷ []
expr_text (Expr-F.Text t) wanted = Push (limited t) ∷ []
expr_text (Expr-F.Read p) wanted = part_code p
expr_text (Expr-F.Call f args) wanted = called_text (arguments_code args ++ CallFunction f ∷ []) wanted
expr_text (Expr-F.Route block) wanted = called_text (CallBlock block ∷ []) wanted
expr_text (Expr-F.Not a) wanted = a AsTruth ++ Not ∷ []
expr_text (Expr-F.Negative a) wanted = a AsValue ++ Negate ∷ []
expr_text (Expr-F.Chain a cs) wanted = a AsValue ++ links_text cs
expr_text (Expr-F.Matches a p) wanted = a AsValue ++ Match p ∷ []
expr_text (Expr-F.All ms) wanted = Push (bit true) ∷ ands_text ms
expr_text (Expr-F.Any ms) wanted = Push (bit false) ∷ ors_text ms

abbrev pub expr_code : Expr → Wanted → Text
expr_code = fold-Expr (Wanted → Text) expr_text

-- the operands of a chain, of `&&` and of `||`
abbrev pub links_code : List (BinOp × Expr) → Text
links_code cs = links_text (map (λ (c : BinOp × Expr). (c.0, expr_code c.1)) cs)

abbrev pub ands_code : List Expr → Text
ands_code ms = ands_text (map expr_code ms)

abbrev pub ors_code : List Expr → Text
ors_code ms = ors_text (map expr_code ms)

-- ---- statements

-- an assignment: the key, then the value
abbrev pub set_text : Target → Text → Text
set_text (target.Var x) value = CountStatement ∷ (value ++ Store x ∷ [])
set_text (target.Host x) value = CountStatement ∷ (value ++ Write x ∷ [])
set_text (target.Item way t key) value = CountStatement ∷ (expansion_code key ++ (value ++ WriteItem way t ∷ []))

-- a choice: the test, the first side with a jump past the other, and the other
abbrev pub if_text : Text → Text → Text → Text
if_text test first other =
    CountStatement ∷ (test ++ (JumpIfFalse (length first + 1) ∷ (first ++ (Jump (length other) ∷ other))))

-- a loop: the first test is counted here, each later one by `LoopBack`
abbrev pub while_text : Text → Text → Text
while_text test body =
    CountStatement ∷ BeginLoop (length test + length body + 4)
    ∷ (test ++ (JumpIfFalse (length body + 2) ∷ BeginRound ∷ (body ++ LoopBack ∷ EndLoop ∷ [])))

-- a case: its test, its statements, and a jump past the next test
abbrev pub case_text : Val → Text → Text
case_text label body = Case label (length body + 1) ∷ (body ++ Jump 1 ∷ [])

abbrev pub cases_text : List (Val × List Text) → Text
cases_text [] = []
cases_text (c ∷ cs) = case_text c.0 (texts_joined c.1) ++ cases_text cs

-- a switch: the value, which the case that equals it takes, and else the default
abbrev pub switch_text : Text → Text → Text → Text
switch_text value cases default =
    CountStatement ∷ BeginLoop (length value + length cases + length default + 2)
    ∷ (value ++ (cases ++ (Pop ∷ (default ++ EndLoop ∷ []))))

abbrev pub return_text : Option Expr → Text
return_text None = Push (val.Int (pos 1)) ∷ Return ∷ []
return_text (Some e) = expr_code e AsValue ++ Return ∷ []

abbrev pub stmt_text : Stmt-F Text → Text
stmt_text (Stmt-F.Set target e) = set_text target (expr_code e AsValue)
stmt_text (Stmt-F.Do e) = expr_code e AsValue ++ Pop ∷ []
stmt_text (Stmt-F.If e first other) = if_text (expr_code e AsTruth) (texts_joined first) (texts_joined other)
stmt_text (Stmt-F.While e body) = while_text (expr_code e AsTruth) (texts_joined body)
stmt_text (Stmt-F.Switch e cases default) =
    switch_text (expr_code e AsValue) (cases_text cases) (texts_joined default)
stmt_text Stmt-F.Break = Break ∷ []
stmt_text (Stmt-F.Return e) = CountStatement ∷ return_text e
stmt_text Stmt-F.Exit = CountStatement ∷ Exit ∷ []
stmt_text Stmt-F.Drop = CountStatement ∷ Drop ∷ []

abbrev pub stmt_code : Stmt → Text
stmt_code = fold-Stmt Text stmt_text

-- the statements of a list
abbrev pub list_code : List Stmt → Text
list_code block = texts_joined (map stmt_code block)

-- the cases of a switch
abbrev pub cases_code : List (Val × List Stmt) → Text
cases_code cases = cases_text (map (λ (c : Val × List Stmt). (c.0, map stmt_code c.1)) cases)

abbrev pub text_of_block : List Stmt → Text
text_of_block block = list_code block ++ EndBlock ∷ []
