-- How a run goes on that is handed on, with a copy of the facts that it began with.
use Rattle.std.specs.Prelude.{◌≡◌, ◌⊎◌, []}
use Rattle.dialogue.specs.Course.{Course, Ends, Asks, Takes}
use Rattle.cfg_code.specs.Flat.{FlatScript}
use Rattle.pv_table.specs.declared.facts.Facts.{Facts}
use Rattle.host_meaning.specs.declared.ask.Heard.{Heard}
use Rattle.host_meaning.specs.Run.{Around, RunState, Kept}
use Rattle.host_meaning.specs.Host.{HostCourse, Finished, RanOut}
use Rattle.script_host.specs.declared.run.HostRun.{HostRun}
use Rattle.script_host.specs.declared.restorable.RestorableRun.{RestorableRun}
use Rattle.script_host.specs.declared.restorable.HostNext.{HostNext}
use Rattle.script_host.specs.declared.restorable.HostNext.TheVariants as onward
use Rattle.script_host.specs.Asking.{as_asked}
use Rattle.script_host.specs.Lending.{state_of}
use Rattle.script_host.specs.Running.{HostWaits}

-- the run, and the facts that it began with
abbrev pub run_in : RestorableRun → HostRun
run_in r = r.run

abbrev pub facts_before : RestorableRun → Facts
facts_before r = r.before

-- a run that began with these facts and waits, and goes on from each answer as this says
pub record RestorableWaits (loaded : FlatScript) (a : Around) (before : Facts) (r : RestorableRun) (next : Heard → HostCourse) : Type 0 where
  pub waits : HostWaits loaded a (run_in r) next
  pub began : facts_before r ≡ before

-- the facts as they were, with what is left of a run that found no memory: the blocks that it holds, and the suspension that it opened
-- last
abbrev pub as_before : Facts → Kept → RunState
as_before before k = record { facts = record before { label = k.label }; blocks = k.blocks }

-- how a run went on is what its course says
abbrev pub IsHostNext : FlatScript → Around → Facts → HostCourse → HostNext → Type 0
IsHostNext loaded a before (Takes short on) n = IsHostNext loaded a before short n ⊎ IsHostNext loaded a before on n
IsHostNext loaded a before (Asks ask next) (onward.Asks run asked) = (as_asked asked [] ≡ ask) × RestorableWaits loaded a before run next
IsHostNext loaded a before (Asks ask next) (onward.Ended d how) = ⊥
IsHostNext loaded a before (Asks ask next) (onward.NoMemory d) = ⊥
IsHostNext loaded a before (Ends (Finished s how)) (onward.Asks run asked) = ⊥
IsHostNext loaded a before (Ends (Finished s how)) (onward.Ended d ended) = (state_of d ≡ s) × (ended ≡ how)
IsHostNext loaded a before (Ends (Finished s how)) (onward.NoMemory d) = ⊥
IsHostNext loaded a before (Ends (RanOut k)) (onward.Asks run asked) = ⊥
IsHostNext loaded a before (Ends (RanOut k)) (onward.Ended d how) = ⊥
IsHostNext loaded a before (Ends (RanOut k)) (onward.NoMemory d) = state_of d ≡ as_before before k

-- a fact of the run that asks
abbrev pub OnNext : HostNext → (RestorableRun → Type 0) → Type 0
OnNext (onward.Asks run asked) P = P run
OnNext (onward.Ended d how) P = Unit {0}
OnNext (onward.NoMemory d) P = Unit {0}
