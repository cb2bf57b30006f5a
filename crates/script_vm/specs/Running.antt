-- How a run goes on.
use Rattle.std.specs.Prelude.{◌≡◌, ℕ, List, Result, Ok, Err}
use Rattle.dialogue.specs.Talk.{Ends, Asks}
use Rattle.pv_values.specs.declared.run.How.{How}
use Rattle.pv_values.specs.declared.run.How.TheVariants as how
use Rattle.cfg_tree.specs.Meaning.{RunTalk}
use Rattle.cfg_code.specs.Flat.{FlatScript}
use Rattle.cfg_code.specs.declared.machine.Event.TheVariants.{Moved, Asked, Over, Stuck}
use Rattle.cfg_code.specs.declared.machine.Wait.{Wait}
use Rattle.cfg_code.specs.declared.machine.Wait.TheVariants as wait
use Rattle.cfg_code.specs.Machine.{Configuration, Next, asked_of}
use Rattle.cfg_code.specs.Follows.{Waits}
use Rattle.script_vm.specs.declared.stop.Stop.{Stop}
use Rattle.script_vm.specs.declared.stop.Stop.TheVariants as stop
use Rattle.script_vm.specs.declared.run.Went.{Went}
use Rattle.script_vm.specs.declared.run.Went.TheVariants as went
use Rattle.script_vm.specs.declared.run.RunNext.{RunNext}
use Rattle.script_vm.specs.declared.run.RunNext.TheVariants.{Asks as RunAsks, Ended as RunEnded, NoMemory}

-- this is what an instruction came to, and what the run has then; memory may run out
abbrev pub ComesTo : {A : Type 0} → Next → Result A Stop → Configuration → Type 0
ComesTo next (Ok x) run = next ≡ record { event = Moved; run = run }
ComesTo next (Err stop.Asked) run = next ≡ record { event = Asked; run = run }
ComesTo next (Err stop.Over) run = next ≡ record { event = Over; run = run }
ComesTo next (Err stop.Stuck) run = next.event ≡ Stuck
ComesTo next (Err stop.NoMemory) run = Unit {0}

-- a script whose patterns are these
abbrev pub with_patterns : List (List ℕ) → FlatScript → FlatScript
with_patterns patterns loaded = record loaded { patterns = patterns }

-- A run that was advanced, and how it went on, are what its dialogue says, unless memory runs out: it asks what is to be
-- asked, and waits for the answer; or it has ended as is said.
abbrev pub IsWent : FlatScript → RunTalk → Configuration → Went → Type 0
IsWent loaded talk run went.NoMemory = Unit {0}
IsWent loaded (Asks ask next) run went.Asks = (asked_of loaded run ≡ ask) × Waits loaded run next
IsWent loaded (Ends end) run went.Ended = (run.env ≡ end.env) × (run.wait ≡ wait.Over end.how)
IsWent loaded (Asks ask next) run went.Ended = ⊥
IsWent loaded (Ends end) run went.Asks = ⊥

-- a fact where the run asks
abbrev pub OnWent : Went → Type 0 → Type 0
OnWent went.NoMemory P = Unit {0}
OnWent went.Asks P = P
OnWent went.Ended P = Unit {0}

-- how a run has ended; one that hasn't, as by `exit`
abbrev pub how_ended : Wait → How
how_ended (wait.Over h) = h
how_ended w = how.Exit

-- how a run goes on that is handed on is what its dialogue says, unless memory runs out
abbrev pub IsNext : FlatScript → RunTalk → RunNext → Type 0
IsNext loaded talk NoMemory = Unit {0}
IsNext loaded (Asks ask next) (RunAsks run asked) = (asked ≡ ask) × Waits loaded run next
IsNext loaded (Ends end) (RunEnded env how) = record { env = env; how = how } ≡ end
IsNext loaded (Asks ask next) (RunEnded env how) = ⊥
IsNext loaded (Ends end) (RunAsks run asked) = ⊥

-- a fact of the run that asks
abbrev pub OnAsks : RunNext → (Configuration → Type 0) → Type 0
OnAsks NoMemory P = Unit {0}
OnAsks (RunAsks run asked) P = P run
OnAsks (RunEnded env how) P = Unit {0}
