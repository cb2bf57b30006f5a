-- What a run of a block does: the script's meaning, each ask of which is answered by its row.
use Rattle.std.specs.Prelude.{ℕ, pos, List, replicate}
use Rattle.dialogue.specs.Course.{Course, Ends, Asks, Takes, and_then}
use Rattle.dialogue.specs.Talk.{Ends as RunEnds, Asks as RunAsks}
use Rattle.pv_values.specs.declared.run.Env.{Env}
use Rattle.pv_values.specs.declared.run.How.{How}
use Rattle.pv_values.specs.declared.run.HostAnswer.{HostAnswer}
use Rattle.pv_values.specs.declared.run.HostAnswer.TheVariants as told
use Rattle.pv_values.specs.declared.value.Val.TheVariants.{Int}
use Rattle.cfg_tree.specs.declared.script.Script.{Script}
use Rattle.cfg_tree.specs.Meaning.{RunTalk, dialogue}
use Rattle.host_meaning.specs.declared.ask.Asked.{Asked}
use Rattle.host_meaning.specs.declared.ask.Heard.{Heard}
use Rattle.host_meaning.specs.Run.{Around, RunState, Kept, kept, RowEnd, Tells, Lacks, RowCourse}
use Rattle.host_meaning.specs.Rows.{row}

-- how a run ends: with what it has, and how; or it found no memory, and this is left
pub data HostEnd : Type 0 where
  Finished : (state : RunState) → (how : How) → HostEnd
  RanOut : (kept : Kept) → HostEnd

abbrev pub HostCourse : Type 0
HostCourse = Course Asked Heard HostEnd

-- what is told next, and what the run has then
abbrev pub Onward : Type 0
Onward = HostAnswer → RunState → HostCourse

-- a run takes memory of its own whenever it goes on from an answer
abbrev pub resumed : Onward → RowEnd → HostCourse
resumed go (Tells answer s) = Takes (Ends (RanOut (kept s))) (go answer s)
resumed go (Lacks s) = Ends (RanOut (kept s))

-- a row that asks nothing leaves what is kept as it was, so the run goes on as before
abbrev pub at_once : Onward → RowEnd → HostCourse
at_once go (Tells answer s) = go answer s
at_once go (Lacks s) = Ends (RanOut (kept s))

abbrev pub by_row : Onward → RowCourse → HostCourse
by_row go (Ends end) = at_once go end
by_row go (Asks ask next) = Asks ask (λ h. and_then (next h) (resumed go))
by_row go (Takes short on) = Takes (and_then short (resumed go)) (and_then on (resumed go))

abbrev pub host : Around → RunTalk → RunState → HostCourse
host a (RunEnds end) s = Ends (Finished s end.how)
host a (RunAsks ask next) s = by_row (λ answer. host a (next answer)) (row a ask s)

-- each `$var` is 0 at a run's start, and so is `$rc`
abbrev pub at_start : Script → Env
at_start script = record { vars = replicate script.vars (Int (pos 0)); rc = pos 0 }

-- the course of a run of a block
abbrev pub run_of : Script → ℕ → Around → RunState → HostCourse
run_of script block a s = resumed (λ answer. host a (dialogue script block (at_start script))) (Tells told.Start s)
