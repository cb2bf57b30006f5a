-- What the code of a script, and a run of it, have to do with the script's meaning.
use Rattle.std.specs.Prelude.{◌≡◌, ℕ, ◌+◌, List, [], ◌∷◌, length, Some, slice_get}
use Rattle.dialogue.specs.Talk.{Ends, Asks}
use Rattle.pv_values.specs.declared.run.How.{How}
use Rattle.pv_values.specs.declared.run.HostAsk.{HostAsk}
use Rattle.pv_values.specs.declared.run.HostAnswer.{HostAnswer}
use Rattle.cfg_tree.specs.declared.script.Script.{Script}
use Rattle.cfg_tree.specs.Meaning.{RunTalk, block_at}
use Rattle.cfg_code.specs.declared.instr.Instr.{Instr}
use Rattle.cfg_code.specs.Flat.{FlatScript}
use Rattle.cfg_code.specs.declared.machine.Event.TheVariants.{Moved, Asked, Over}
use Rattle.cfg_code.specs.declared.machine.Wait.TheVariants as wait
use Rattle.cfg_code.specs.Code.{text_of_block}
use Rattle.cfg_code.specs.Machine.{Configuration, IsOpen, entry, step_of, asked_of, told}

-- these instructions stand in the code from this place on
abbrev pub HasAt : List Instr → ℕ → List Instr → Type 0
HasAt code place [] = Unit {0}
HasAt code place (i ∷ is) = (slice_get code place ≡ Some i) × HasAt code (place + 1) is

-- the code stands for the script: each block's instructions stand where it begins, and all else is the script's
pub record Stands (loaded : FlatScript) (script : Script) : Type 0 where
  pub blocks : (b : ℕ) → HasAt loaded.code.instrs (entry loaded b) (text_of_block (block_at script b))
  pub count : length loaded.code.entries ≡ length script.blocks
  pub request : loaded.request ≡ script.request
  pub reply : loaded.reply ≡ script.reply
  pub vars : loaded.vars ≡ script.vars
  pub patterns : loaded.patterns ≡ script.patterns
  pub tables : loaded.tables ≡ script.tables
  pub parameters : loaded.parameters ≡ script.parameters

-- from here on the code has this dialogue
pub data Behaves (loaded : FlatScript) : Configuration → RunTalk → Type 0 where
  moves : (r : Configuration) (t : RunTalk) → (step_of loaded r).event ≡ Moved → Behaves loaded (step_of loaded r).run t → Behaves loaded r t
  asks : (r : Configuration) (a : HostAsk) (next : HostAnswer → RunTalk) → (step_of loaded r).event ≡ Asked →
      asked_of loaded (step_of loaded r).run ≡ a → IsOpen (step_of loaded r).run.wait →
      ((answer : HostAnswer) → Behaves loaded (told answer (step_of loaded r).run) (next answer)) → Behaves loaded r (Asks a next)
  ends : (r : Configuration) (h : How) → (step_of loaded r).event ≡ Over → (step_of loaded r).run.wait ≡ wait.Over h →
      Behaves loaded r (Ends (record { env = (step_of loaded r).run.env; how = h }))

-- where a run waits for an answer: it hasn't ended, and goes on from each answer as this says
pub record Waits (loaded : FlatScript) (r : Configuration) (next : HostAnswer → RunTalk) : Type 0 where
  pub still : IsOpen r.wait
  pub by : (answer : HostAnswer) → Behaves loaded (told answer r) (next answer)
