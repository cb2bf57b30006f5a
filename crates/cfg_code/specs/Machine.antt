-- What one instruction does, and what an answer does.
use Rattle.std.specs.Prelude.{ℕ, zero, suc, ◌+◌, ◌-◌, ℤ, pos, int_lt, not, if◌then◌else◌, List, [], ◌∷◌, ◌++◌, drop, Option, Some, None, slice_get, slice_index_or, slice_set}
use Rattle.pv_values.specs.declared.value.Val.{Val}
use Rattle.pv_values.specs.declared.value.Val.TheVariants as val
use Rattle.pv_values.specs.declared.variable.PvUse.{PvUse}
use Rattle.pv_values.specs.declared.variable.PvUse.TheVariants as pv
use Rattle.pv_values.specs.declared.run.Env.{Env}
use Rattle.pv_values.specs.declared.run.How.{How}
use Rattle.pv_values.specs.declared.run.How.TheVariants as how
use Rattle.pv_values.specs.declared.run.HostAsk.{HostAsk}
use Rattle.pv_values.specs.declared.run.HostAsk.TheVariants as ask
use Rattle.pv_values.specs.declared.run.HostAnswer.{HostAnswer}
use Rattle.pv_values.specs.Values.{text_of, is_true, bit, same, sum_of, binary_value, negated, code_of, told_value, told_code}
use Rattle.cfg_tree.specs.declared.script.TableUse.{TableUse}
use Rattle.cfg_tree.specs.Transformations.{transformed}
use Rattle.cfg_tree.specs.Meaning.{item_of, matched, end_of, max_statements}
use Rattle.cfg_code.specs.declared.instr.Instr.{Instr}
use Rattle.cfg_code.specs.declared.instr.Instr.TheVariants.{Push, Load, LoadCode, LoadSuccess, Store, Read, ReadItem, Write, WriteItem, Transform, Concat, PushArgument, CallFunction, ExitOnZero, CallBlock, Binary, Negate, Not, ToBool, Match, JumpIfFalseOrPop, JumpIfTrueOrPop, Pop, CountStatement, JumpIfFalse, Jump, Case, BeginLoop, BeginRound, LoopBack, EndLoop, Break, Return, Exit, Drop, EndBlock}
use Rattle.cfg_code.specs.Flat.{FlatScript}
use Rattle.cfg_code.specs.declared.machine.Frame.{Frame}
use Rattle.cfg_code.specs.declared.machine.Frame.TheVariants.{Loop, Back}
use Rattle.cfg_code.specs.declared.machine.Wait.{Wait}
use Rattle.cfg_code.specs.declared.machine.Wait.TheVariants as wait
use Rattle.cfg_code.specs.declared.machine.Event.{Event}
use Rattle.cfg_code.specs.declared.machine.Event.TheVariants.{Moved, Asked, Over, Stuck}

-- What a run has at a time: the place of its next instruction, the operand stack, top first, the arguments of the next
-- call, the open loops and waiting blocks, top first, how many calls may still be nested, the variables, how many
-- statements it may still begin, and what it waits for. What it asks about stays where it lies until the answer takes it.
pub record Configuration : Type 0 where
  pub pc : ℕ
  pub stack : List Val
  pub arguments : List Val
  pub frames : List Frame
  pub calls_left : ℕ
  pub env : Env
  pub statements_left : ℕ
  pub wait : Wait

-- what an instruction came to, and what the run has after it
pub record Next : Type 0 where
  pub event : Event
  pub run : Configuration

abbrev pub moved : Configuration → Next
moved r = record { event = Moved; run = r }

abbrev pub over : How → Configuration → Next
over h r = record { event = Over; run = record r { wait = wait.Over h } }

abbrev pub stuck : Configuration → Next
stuck r = record { event = Stuck; run = r }

-- asks, and waits for this
abbrev pub asking : Wait → Configuration → Next
asking w r = record { event = Asked; run = record r { wait = w } }

-- past so many instructions
abbrev pub jump : ℕ → Configuration → Next
jump n r = moved (record r { pc = r.pc + n })

-- leaves a value
abbrev pub put : Val → Configuration → Configuration
put v r = record r { stack = v ∷ r.stack }

-- with the topmost value taken
abbrev pub on_top : List Val → Configuration → (Val → Configuration → Next) → Next
on_top [] r next = stuck r
on_top (v ∷ stack) r next = next v (record r { stack = stack })

-- takes a value, and leaves what is made of it
abbrev pub changing : (Val → Val) → Configuration → Next
changing f r = on_top r.stack r (λ v r. moved (put (f v) r))

-- takes two values, and leaves what is made of the lower and the upper one
abbrev pub joining : (Val → Val → Val) → Configuration → Next
joining f r = on_top r.stack r (λ y r. on_top r.stack r (λ x r. moved (put (f x y) r)))

-- ---- variables, asks

abbrev pub storing : ℕ → Configuration → Next
storing x r = on_top r.stack r (λ v r. moved (record r { env = record r.env { vars = slice_set r.env.vars x v } }))

-- asks about the item under a key, whose text lies on the stack
abbrev pub reading_item : Configuration → Next
reading_item r = on_top r.stack r (λ k r. asking wait.ItemValue (put (val.Text (text_of k)) r))

abbrev pub writing : Configuration → Next
writing r = on_top r.stack r (λ v r. asking wait.Written (put v r))

abbrev pub writing_item : Configuration → Next
writing_item r =
    on_top r.stack r (λ v r. on_top r.stack r (λ k r. asking wait.ItemWritten (put v (put (val.Text (text_of k)) r))))

abbrev pub pushing_argument : Configuration → Next
pushing_argument r = on_top r.stack r (λ v r. moved (record r { arguments = r.arguments ++ v ∷ [] }))

-- ---- jumps

-- takes a value, and jumps where it is false
abbrev pub jumping_if_false : ℕ → Configuration → Next
jumping_if_false n r = on_top r.stack r (λ v r. if is_true v then moved r else jump n r)

-- takes a true value, and else jumps
abbrev pub jumping_if_false_or_pop : ℕ → Configuration → Next
jumping_if_false_or_pop n r = on_top r.stack r (λ v r. if is_true v then moved r else jump n (put v r))

-- takes a false value, and else jumps
abbrev pub jumping_if_true_or_pop : ℕ → Configuration → Next
jumping_if_true_or_pop n r = on_top r.stack r (λ v r. if is_true v then jump n (put v r) else moved r)

-- takes a value that equals the label, and else jumps
abbrev pub casing : Val → ℕ → Configuration → Next
casing label n r = on_top r.stack r (λ v r. if same v label then moved r else jump n (put v r))

-- ---- counts, loops, blocks

-- counts a statement, where it isn't one too many
abbrev pub counting : ℕ → Configuration → (Configuration → Next) → Next
counting zero r next = over how.ActionLimit r
counting (suc left) r next = next (record r { statements_left = left })

abbrev pub beginning_loop : ℕ → ℕ → Configuration → Next
beginning_loop rounds n r = moved (record r { frames = Loop rounds r.pc (r.pc + n) ∷ r.frames })

abbrev pub beginning_round : List Frame → Configuration → Next
beginning_round [] r = stuck r
beginning_round (Back pc calls ∷ frames) r = stuck r
beginning_round (Loop zero start exit ∷ frames) r = over how.LoopLimit r
beginning_round (Loop (suc rounds) start exit ∷ frames) r = moved (record r { frames = Loop rounds start exit ∷ frames })

abbrev pub looping_back : List Frame → Configuration → Next
looping_back [] r = stuck r
looping_back (Back pc calls ∷ frames) r = stuck r
looping_back (Loop rounds start exit ∷ frames) r = moved (record r { pc = start })

abbrev pub ending_loop : List Frame → Configuration → Next
ending_loop [] r = stuck r
ending_loop (Back pc calls ∷ frames) r = stuck r
ending_loop (Loop rounds start exit ∷ frames) r = moved (record r { frames = frames })

abbrev pub with_code : ℤ → Configuration → Configuration
with_code n r = record r { env = record r.env { rc = n } }

-- back with a code to the block that waits, or to the end of the run
abbrev pub leave : List Frame → ℤ → How → Configuration → Next
leave [] n h r = over h (record r { frames = [] })
leave (Loop rounds start exit ∷ frames) n h r = leave frames n h r
leave (Back pc calls ∷ frames) n h r = moved (with_code n (record r { pc = pc; calls_left = calls; frames = frames }))

-- out of the loop or switch, or of the block
abbrev pub breaking : List Frame → Configuration → Next
breaking [] r = leave [] (pos 1) how.Normal r
breaking (Back pc calls ∷ frames) r = leave (Back pc calls ∷ frames) (pos 1) how.Normal r
breaking (Loop rounds start exit ∷ frames) r = moved (record r { pc = exit; frames = frames })

abbrev pub returning : Configuration → Next
returning r = on_top r.stack r (λ v r. leave r.frames (code_of v) (end_of (code_of v)) r)

abbrev pub exiting_on_zero : ℤ → Configuration → Next
exiting_on_zero (pos zero) r = over how.Exit r
exiting_on_zero n r = moved r

-- into a block that begins there
abbrev pub calling_block : ℕ → ℕ → Configuration → Next
calling_block zero to r = over how.DepthLimit r
calling_block (suc calls) to r =
    moved (record r { pc = to; calls_left = calls; frames = Back r.pc (suc calls) ∷ r.frames })

-- the place where a block begins
abbrev pub entry : FlatScript → ℕ → ℕ
entry loaded block = slice_index_or loaded.code.entries block 0

-- what an instruction does, where the run's place is after it
abbrev pub act : FlatScript → Instr → Configuration → Next
act loaded (Push v) r = moved (put v r)
act loaded (Load x) r = moved (put (slice_index_or r.env.vars x val.Null) r)
act loaded LoadCode r = moved (put (val.Int r.env.rc) r)
act loaded LoadSuccess r = moved (put (bit (int_lt (pos 0) r.env.rc)) r)
act loaded (Store x) r = storing x r
act loaded (Read x) r = asking wait.Value r
act loaded (ReadItem way t) r = reading_item r
act loaded (Write x) r = writing r
act loaded (WriteItem way t) r = writing_item r
act loaded (Transform tr) r = changing (transformed tr) r
act loaded Concat r = joining sum_of r
act loaded PushArgument r = pushing_argument r
act loaded (CallFunction f) r = asking wait.Code r
act loaded ExitOnZero r = exiting_on_zero r.env.rc r
act loaded (CallBlock block) r = calling_block r.calls_left (entry loaded block) r
act loaded (Binary op) r = joining (binary_value op) r
act loaded Negate r = changing negated r
act loaded Not r = changing (λ v. bit (not (is_true v))) r
act loaded ToBool r = changing (λ v. bit (is_true v)) r
act loaded (Match p) r = changing (λ v. bit (matched (slice_get loaded.patterns p) v)) r
act loaded (JumpIfFalseOrPop n) r = jumping_if_false_or_pop n r
act loaded (JumpIfTrueOrPop n) r = jumping_if_true_or_pop n r
act loaded Pop r = on_top r.stack r (λ v. moved)
act loaded CountStatement r = counting r.statements_left r moved
act loaded (JumpIfFalse n) r = jumping_if_false n r
act loaded (Jump n) r = jump n r
act loaded (Case label n) r = casing label n r
act loaded (BeginLoop n) r = beginning_loop loaded.parameters.max_while_loops n r
act loaded BeginRound r = beginning_round r.frames r
act loaded LoopBack r = counting r.statements_left r (λ r. looping_back r.frames r)
act loaded EndLoop r = ending_loop r.frames r
act loaded Break r = counting r.statements_left r (λ r. breaking r.frames r)
act loaded Return r = returning r
act loaded Exit r = over how.Exit r
act loaded Drop r = over how.Drop r
act loaded EndBlock r = leave r.frames (pos 1) how.Normal r

abbrev pub fetched : FlatScript → Option Instr → Configuration → Next
fetched loaded None r = stuck r
fetched loaded (Some i) r = act loaded i (record r { pc = r.pc + 1 })

-- one instruction, which stands at the run's place
abbrev pub step_of : FlatScript → Configuration → Next
step_of loaded r = fetched loaded (slice_get loaded.code.instrs r.pc) r

-- ---- what a run asks, as the instruction before its place, the stack and the arguments say

-- where nothing is asked
abbrev pub no_ask : HostAsk
no_ask = ask.Read pv.Null

-- of an item under a key, which is a text
abbrev pub item_read : TableUse → ℕ → Option Val → HostAsk
item_read way t (Some (val.Text k)) = ask.Read (item_of way t k)
item_read way t key = no_ask

abbrev pub host_written : PvUse → Option Val → HostAsk
host_written x (Some v) = ask.Write x v
host_written x None = no_ask

abbrev pub item_written : TableUse → ℕ → Option Val → Option Val → HostAsk
item_written way t (Some v) (Some (val.Text k)) = ask.Write (item_of way t k) v
item_written way t v key = no_ask

abbrev pub asked_by : Option Instr → Configuration → HostAsk
asked_by (Some (Read x)) r = ask.Read x
asked_by (Some (ReadItem way t)) r = item_read way t (slice_get r.stack 0)
asked_by (Some (Write x)) r = host_written x (slice_get r.stack 0)
asked_by (Some (WriteItem way t)) r = item_written way t (slice_get r.stack 0) (slice_get r.stack 1)
asked_by (Some (CallFunction f)) r = ask.Call f r.arguments
asked_by other r = no_ask

abbrev pub asked_of : FlatScript → Configuration → HostAsk
asked_of loaded r = asked_by (slice_get loaded.code.instrs (r.pc - 1)) r

-- ---- what an answer does: it takes what was asked about

abbrev pub told_as : Wait → HostAnswer → Configuration → Configuration
told_as wait.Start answer r = record r { wait = wait.Start }
told_as wait.Value answer r = record r { stack = told_value answer ∷ r.stack; wait = wait.Start }
told_as wait.ItemValue answer r = record r { stack = told_value answer ∷ drop 1 r.stack; wait = wait.Start }
told_as wait.Written answer r = record r { stack = drop 1 r.stack; wait = wait.Start }
told_as wait.ItemWritten answer r = record r { stack = drop 2 r.stack; wait = wait.Start }
told_as wait.Code answer r = with_code (told_code answer) (record r { arguments = []; wait = wait.Start })
told_as (wait.Over h) answer r = r

abbrev pub told : HostAnswer → Configuration → Configuration
told answer r = told_as r.wait answer r

-- ---- beginning and end

-- what a run of a block has at its start
abbrev pub begun : FlatScript → ℕ → Env → Configuration
begun loaded block env = record {
  pc = entry loaded block;
  stack = [];
  arguments = [];
  frames = [];
  calls_left = loaded.parameters.max_recursive_level;
  env = env;
  statements_left = max_statements;
  wait = wait.Start;
}

-- the run hasn't ended
abbrev pub IsOpen : Wait → Type 0
IsOpen (wait.Over h) = ⊥
IsOpen w = Unit {0}
