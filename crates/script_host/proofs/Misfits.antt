-- Answers that a run hears.
use Rattle.std.proofs.Common.{◌≡◌, ℕ, refl, sym, ap, ◌∙◌}
use Rattle.std.specs.Prelude.{Option}
use Rattle.dialogue.specs.Course.{Ends, Asks, Takes}
use Rattle.buf_pool.specs.Pools.{BlockState}
use Rattle.pv_values.specs.declared.run.HostAnswer.{HostAnswer}
use Rattle.pv_values.specs.declared.run.HostAnswer.TheVariants as told
use Rattle.pv_table.specs.declared.facts.RunData.{RunData}
use Rattle.host_meaning.specs.declared.ask.Heard.{Heard}
use Rattle.host_meaning.specs.Run.{RunState, RowCourse, RowEnd, Tells, Lacks}
use Rattle.host_meaning.specs.Relaying.{with_block}
use Rattle.script_host.specs.declared.ask.Answer.{Answer}
use Rattle.script_host.specs.declared.ask.Answer.TheVariants as answer
use Rattle.script_host.specs.declared.row.Wait.{Wait}
use Rattle.script_host.specs.declared.row.Wait.TheVariants as wait
use Rattle.script_host.specs.declared.row.Waiting.{Waiting}
use Rattle.script_host.specs.declared.row.Waiting.TheVariants as waiting
use Rattle.script_host.specs.Asking.{as_heard}
use Rattle.script_host.specs.Lending.{state_of}
use Rattle.script_host.specs.Rows.{left, without, HasTaken, IsShort}
use Rattle.script_host.proofs.Blocks.{lacks_with}

-- a run that waits for nothing hears any answer
pub never_lacks : (w : Wait) (s : RunState) (x : Heard) → w ≡ wait.Start → left w s x ≡ Ends (Lacks s) → ⊥
never_lacks wait.Start s x e f = cc
never_lacks wait.Value s x e f = cc
never_lacks wait.Written s x e f = cc
never_lacks wait.Counted s x e f = cc
never_lacks wait.Noted s x e f = cc
never_lacks wait.Found s x e f = cc

abbrev answer_of : RowEnd → HostAnswer
answer_of (Tells a s) = a
answer_of (Lacks s) = told.Start

abbrev answer_in : RowCourse → HostAnswer
answer_in (Ends end) = answer_of end
answer_in (Asks ask next) = told.Start
answer_in (Takes short on) = told.Start

-- and is told that it starts
pub tells_start : (w : Wait) (answer : HostAnswer) (s : RunState) (x : Heard) → w ≡ wait.Start → left w s x ≡ Ends (Tells answer s) → answer ≡ told.Start
tells_start w answer s x e p = sym (ap answer_in (ap (λ v. left v s x) (sym e) ∙ p))

abbrev row_in : Waiting → Wait
row_in (waiting.Row w) = w
row_in (waiting.Block more taken) = wait.Start
row_in (waiting.GivenBack n) = wait.Start

pub same_row : (v : Waiting) (w x : Wait) → v ≡ waiting.Row w → v ≡ waiting.Row x → w ≡ x
same_row v w x e f = sym (ap row_in e) ∙ ap row_in f

-- an answer that doesn't fit the ask for a block is one of an object that found no memory
pub misfit : (x : Answer) (taken : ℕ) (d : RunData) (rest : RowCourse) → HasTaken taken d → ((b : Option BlockState) → x ≡ answer.Block b → ⊥) →
    IsShort (with_block (as_heard x) taken (without taken d) rest) (state_of d)
misfit answer.Start taken d rest there n = lacks_with taken d there
misfit answer.Sent taken d rest there n = lacks_with taken d there
misfit answer.Failed taken d rest there n = lacks_with taken d there
misfit (answer.Table reply) taken d rest there n = lacks_with taken d there
misfit (answer.Opened serial) taken d rest there n = lacks_with taken d there
misfit (answer.Claim end) taken d rest there n = lacks_with taken d there
misfit (answer.Found at) taken d rest there n = lacks_with taken d there
misfit (answer.Block b) taken d rest there n = absurd (n b refl)
misfit answer.Noted taken d rest there n = lacks_with taken d there
misfit answer.NoMemory taken d rest there n = lacks_with taken d there
