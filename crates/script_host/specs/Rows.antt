-- What the code of a row comes to.
use Rattle.std.specs.Prelude.{◌≡◌, ◌≤◌, ◌<◌, ℕ, zero, suc, ◌+◌, ◌-◌, ◌*◌, pos, negsuc, List, [], ◌∷◌, length, reverse, Option, Some, None}
use Rattle.dialogue.specs.Course.{Ends, Asks, Takes}
use Rattle.pv_values.specs.declared.run.HostAnswer.TheVariants as told
use Rattle.pv_table.specs.declared.facts.Facts.{Facts}
use Rattle.host_meaning.specs.declared.ask.Heard.{Heard}
use Rattle.pv_table.specs.declared.facts.RunData.{RunData}
use Rattle.host_meaning.specs.Run.{Received, Around, RunState, RowCourse, Tells, Lacks, kept, code}
use Rattle.host_meaning.specs.Relaying.{gives, with_block, takes_blocks, relayed}
use Rattle.host_meaning.specs.Transactions.{found}
use Rattle.host_meaning.specs.TableRows.{or_lacks, by_table, value_of_reply, written_by_reply, counted_by_reply, noted}
use Rattle.script_host.specs.declared.row.Wait.{Wait}
use Rattle.script_host.specs.declared.row.Wait.TheVariants as wait
use Rattle.script_host.specs.declared.row.Waiting.{Waiting}
use Rattle.script_host.specs.declared.row.Waiting.TheVariants as waiting
use Rattle.script_host.specs.declared.row.Going.{Going}
use Rattle.script_host.specs.declared.row.Going.TheVariants as going
use Rattle.script_host.specs.declared.row.Row.{Row}
use Rattle.script_host.specs.declared.row.Row.TheVariants as row
use Rattle.script_host.specs.Asking.{as_asked}
use Rattle.script_host.specs.Lending.{state_of}

-- what is left of a row that asks once
abbrev pub left : Wait → RunState → Heard → RowCourse
left wait.Start s h = Ends (Tells told.Start s)
left wait.Value s h = Ends (or_lacks (by_table value_of_reply h) s)
left wait.Written s h = Ends (or_lacks (by_table written_by_reply h) s)
left wait.Counted s h = Ends (or_lacks (by_table counted_by_reply h) s)
left wait.Noted s h = Ends (or_lacks (noted h) s)
left wait.Found s h = Ends (found h s)

-- a row that asks once at most tells or asks this, and leaves this
abbrev pub IsRow : RowCourse → Row → RunState → Type 0
IsRow course (row.Tells answer) s = course ≡ Ends (Tells answer s)
IsRow course (row.Asks ask w) s = course ≡ Asks (as_asked ask []) (left w s)

abbrev pub with_blocks : Facts → ℕ → RunState
with_blocks f n = record { facts = f; blocks = n }

-- a row that makes the new facts of the old ones, whatever blocks the run holds
abbrev pub IsRowOf : (RunState → RowCourse) → Facts → Row → Facts → Type 0
IsRowOf row old r new = (blocks : ℕ) → IsRow (row (with_blocks old blocks)) r (with_blocks new blocks)

-- ---- a row that asks several times: t_relay

-- what is left once the blocks are there: the request is relayed. A run without a message never waits so
abbrev pub relayed_over : Option Received → RunState → RowCourse
relayed_over None s = Ends (Lacks s)
relayed_over (Some r) s = code (pos 1) (relayed r s)

-- what is left of a row that a run waits for
abbrev pub left_of : Around → Waiting → RunState → Heard → RowCourse
left_of a (waiting.Row w) s h = left w s h
left_of a (waiting.Block more taken) s h = with_block h taken s (takes_blocks more (suc taken) s (relayed_over a.received))
left_of a (waiting.GivenBack n) s h = gives n (code (negsuc 1) s)

-- the state of these data without so many of the last blocks
abbrev pub without : ℕ → RunData → RunState
without n d = record { facts = d.facts; blocks = length d.blocks.items - n }

-- the state that what is left is applied to: it counts neither the blocks that the call has taken nor those that go back still
abbrev pub state_under : Waiting → RunData → RunState
state_under (waiting.Row w) d = state_of d
state_under (waiting.Block more taken) d = without taken d
state_under (waiting.GivenBack n) d = without n d

-- the first so many of a list are there
abbrev pub AreThere : {A : Type 0} → ℕ → List (Option A) → Type 0
AreThere zero xs = Unit {0}
AreThere (suc n) [] = ⊥
AreThere (suc n) (None ∷ xs) = ⊥
AreThere (suc n) (Some x ∷ xs) = AreThere n xs

-- the last so many blocks are there
abbrev pub HasTaken : ℕ → RunData → Type 0
HasTaken n d = AreThere n (reverse d.blocks.items)

-- the most blocks that a run holds
abbrev pub most_blocks : ℕ
most_blocks = 24

-- there are places for the blocks that are wanted, and those that were taken are there
abbrev pub HasRoom : Waiting → RunData → Type 0
HasRoom (waiting.Row w) d = Unit {0}
HasRoom (waiting.Block more taken) d = (suc more + length d.blocks.items ≤ most_blocks) × HasTaken taken d
HasRoom (waiting.GivenBack n) d = HasTaken n d

-- a row, or what is left of it, tells or asks this, and leaves these data
abbrev pub IsGoing : Around → RowCourse → Going → RunData → Type 0
IsGoing a course (going.Tells answer) d = course ≡ Ends (Tells answer (state_of d))
IsGoing a course (going.Asks ask w) d = (course ≡ Asks (as_asked ask []) (left_of a w (state_under w d))) × HasRoom w d

-- what is left ends where a run can find no memory, and with what is kept of this state
abbrev pub IsShort : RowCourse → RunState → Type 0
IsShort (Ends (Tells answer t)) s = kept s ≡ kept t
IsShort (Ends (Lacks t)) s = kept s ≡ kept t
IsShort (Asks ask next) s = ⊥
IsShort (Takes short on) s = ⊥

-- a row asks at most so often behind the ask that a run waits for
abbrev pub rank : Waiting → ℕ
rank (waiting.Row w) = 0
rank (waiting.Block more taken) = 2 * more + taken
rank (waiting.GivenBack n) = n

abbrev pub AsksBelow : ℕ → Going → Type 0
AsksBelow n (going.Tells answer) = Unit {0}
AsksBelow n (going.Asks ask w) = rank w < n

-- above every rank
abbrev pub most_asks : ℕ
most_asks = 1000
