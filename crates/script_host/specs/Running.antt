-- How a run goes on.
use Rattle.std.specs.Prelude.{◌≡◌, ◌⊎◌, ℕ, ◌+◌, ◌*◌, []}
use Rattle.dialogue.specs.Course.{Course, Ends, Asks, Takes, and_then}
use Rattle.pv_values.specs.declared.run.HostAnswer.{HostAnswer}
use Rattle.pv_values.specs.declared.run.How.{How}
use Rattle.cfg_tree.specs.Meaning.{RunTalk}
use Rattle.cfg_code.specs.Flat.{FlatScript}
use Rattle.cfg_code.specs.Follows.{Waits}
use Rattle.cfg_code.specs.Machine.{Configuration}
use Rattle.cfg_code.specs.declared.machine.Wait.TheVariants as wait
use Rattle.script_vm.specs.Measure.{work_left}
use Rattle.script_vm.specs.Running.{how_ended}
use Rattle.pv_table.specs.declared.facts.RunData.{RunData}
use Rattle.host_meaning.specs.declared.ask.Heard.{Heard}
use Rattle.host_meaning.specs.Run.{Around, RunState, kept}
use Rattle.host_meaning.specs.Host.{HostCourse, Finished, RanOut, resumed, host}
use Rattle.script_host.specs.declared.ask.Ask.{Ask}
use Rattle.script_host.specs.declared.row.Wait.TheVariants as host_wait
use Rattle.script_host.specs.declared.row.Waiting.TheVariants as waiting
use Rattle.script_host.specs.declared.run.HostRun.{HostRun}
use Rattle.script_host.specs.declared.run.HostWent.{HostWent}
use Rattle.script_host.specs.declared.run.HostWent.TheVariants as went
use Rattle.script_host.specs.Asking.{as_asked}
use Rattle.script_host.specs.Lending.{state_of}
use Rattle.script_host.specs.Rows.{left_of, state_under, HasRoom, rank, most_asks}

-- what a run asked last, its data, and how it ended
abbrev pub ask_of : HostRun → Ask
ask_of h = h.ask

abbrev pub state_in : HostRun → RunData
state_in h = h.state

abbrev pub how_of : HostRun → How
how_of h = how_ended h.run.wait

-- a run with another ask
abbrev pub with_ask : HostRun → Ask → HostRun
with_ask h a = record h { ask = a }

-- a run that has ended so, and waits for nothing
abbrev pub HasEnded : HostRun → How → Type 0
HasEnded h how = (h.run.wait ≡ wait.Over how) × (h.wait ≡ waiting.Row host_wait.Start)

-- a run that waits goes on from each answer as this says
pub record HostWaits (loaded : FlatScript) (a : Around) (h : HostRun) (next : Heard → HostCourse) : Type 0 where
  pub inner : HostAnswer → RunTalk
  pub waits : Waits loaded h.run inner
  pub room : HasRoom h.wait h.state
  pub same : (x : Heard) → next x ≡ and_then (left_of a h.wait (state_under h.wait h.state) x) (resumed (λ answer. host a (inner answer)))

-- a run that was told this goes on with these data, and that is the whole course
pub record IsAt (loaded : FlatScript) (a : Around) (run : Configuration) (told : HostAnswer) (s : RunState) (whole : HostCourse) : Type 0 where
  pub inner : HostAnswer → RunTalk
  pub waits : Waits loaded run inner
  pub same : whole ≡ Takes (Ends (RanOut (kept s))) (host a (inner told) s)

-- a run that was advanced, and how it went on, are what its course says
abbrev pub IsHostWent : FlatScript → Around → HostCourse → HostRun → HostWent → Type 0
IsHostWent loaded a (Takes short on) h w = IsHostWent loaded a short h w ⊎ IsHostWent loaded a on h w
IsHostWent loaded a (Asks ask next) h went.Asks = (as_asked (ask_of h) [] ≡ ask) × HostWaits loaded a h next
IsHostWent loaded a (Asks ask next) h went.Ended = ⊥
IsHostWent loaded a (Asks ask next) h went.NoMemory = ⊥
IsHostWent loaded a (Ends (Finished s how)) h went.Asks = ⊥
IsHostWent loaded a (Ends (Finished s how)) h went.Ended = (state_of (state_in h) ≡ s) × (how_of h ≡ how) × HasEnded h how
IsHostWent loaded a (Ends (Finished s how)) h went.NoMemory = ⊥
IsHostWent loaded a (Ends (RanOut k)) h went.Asks = ⊥
IsHostWent loaded a (Ends (RanOut k)) h went.Ended = ⊥
IsHostWent loaded a (Ends (RanOut k)) h went.NoMemory = kept (state_of (state_in h)) ≡ k

-- a fact where the run asks
abbrev pub OnAsks : HostWent → Type 0 → Type 0
OnAsks went.Asks P = P
OnAsks went.Ended P = Unit {0}
OnAsks went.NoMemory P = Unit {0}

-- a fact where the run has ended
abbrev pub OnEnded : HostWent → Type 0 → Type 0
OnEnded went.Asks P = Unit {0}
OnEnded went.Ended P = P
OnEnded went.NoMemory P = Unit {0}

-- a run asks at most so often
abbrev pub asks_left : FlatScript → HostRun → ℕ
asks_left loaded h = most_asks * work_left loaded h.run + rank h.wait
