-- What a run has, and what a row makes of it.
use Rattle.std.specs.Prelude.{◌≡◌, ℕ, ℤ, Bool, true, false, List, Option, Some, None, is_none}
use Rattle.std.specs.Prelude.{slice_index_or}
use Rattle.dialogue.specs.Course.{Course, Ends, Asks}
use Rattle.pv_values.specs.declared.run.HostAnswer.{HostAnswer}
use Rattle.pv_values.specs.declared.run.HostAnswer.TheVariants as told
use Rattle.pv_values.specs.declared.value.Val.{Val}
use Rattle.pv_values.specs.declared.value.Val.TheVariants.{Null}
use Rattle.pv_values.specs.Values.{text_of}
use Rattle.sip_msg.specs.declared.message.Message.{Message}
use Rattle.sip_msg.specs.Table.{fault_of}
use Rattle.cfg_tree.specs.declared.setting.Parameters.{Parameters}
use Rattle.pv_table.specs.declared.facts.Facts.{Facts}
use Rattle.host_meaning.specs.declared.ask.Asked.{Asked}
use Rattle.host_meaning.specs.declared.ask.Heard.{Heard}
use Rattle.host_meaning.specs.declared.settings.Settings.{Settings}

-- a message, with its bytes
pub record Received : Type 0 where
  pub bytes : List ℕ
  pub message : Message

-- what a run never changes: what the script and the start of the proxy set, the patterns of the script by number, and its message; an
-- event block has none
pub record Around : Type 0 where
  pub parameters : Parameters
  pub patterns : List (List ℕ)
  pub settings : Settings
  pub received : Option Received

abbrev pub received : List ℕ → Message → Received
received bytes message = record { bytes = bytes; message = message }

abbrev pub around : Parameters → List (List ℕ) → Settings → Option Received → Around
around parameters patterns settings received = record { parameters = parameters; patterns = patterns; settings = settings; received = received }

-- what a run has: its facts, and how many blocks it holds
pub record RunState : Type 0 where
  pub facts : Facts
  pub blocks : ℕ

-- what is left of a run that finds no memory: the blocks that it holds, and the suspension that it opened last
pub record Kept : Type 0 where
  pub blocks : ℕ
  pub label : Option ℕ

abbrev pub kept : RunState → Kept
kept s = record { blocks = s.blocks; label = s.facts.label }

-- how a row ends: the script is told this, and the run has this; or an object found no memory
pub data RowEnd : Type 0 where
  Tells : (answer : HostAnswer) → (state : RunState) → RowEnd
  Lacks : (state : RunState) → RowEnd

abbrev pub RowCourse : Type 0
RowCourse = Course Asked Heard RowEnd

-- a row that ends at once, with a code
abbrev pub code : ℤ → RunState → RowCourse
code n s = Ends (Tells (told.Code n) s)

-- a function came to this code and made the new facts of the old ones, whatever blocks the run holds
abbrev pub ComesTo : (RunState → RowCourse) → Facts → ℤ → Facts → Type 0
ComesTo f old n new = (blocks : ℕ) → f (record { facts = old; blocks = blocks }) ≡ code n (record { facts = new; blocks = blocks })

-- an expanded argument as a text
abbrev pub argument : List Val → ℕ → List ℕ
argument values i = text_of (slice_index_or values i Null)

-- a text that reads as a message
abbrev pub is_readable : List ℕ → Bool
is_readable text = is_none (fault_of text)

-- the facts with one of them changed
abbrev pub with_facts : RunState → Facts → RunState
with_facts s f = record s { facts = f }
