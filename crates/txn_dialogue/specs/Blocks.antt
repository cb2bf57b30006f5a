-- Blocks: what a slot has behind a step, of what it had, what was answered and what went back.
use Rattle.std.specs.Prelude.{◌≡◌, ℕ, ◌+◌, ◌-◌, ◌<◌, true, List, [], ◌∷◌}
use Rattle.dialogue.specs.Course.{Course, Ends, Asks, Takes}
use Rattle.dialogue.specs.declared.item.CourseItem.TheVariants.{Told}
use Rattle.host_meaning.specs.declared.ask.Asked.{Asked}
use Rattle.host_meaning.specs.declared.ask.Asked.TheVariants as ask
use Rattle.host_meaning.specs.declared.ask.Heard.{Heard}
use Rattle.host_meaning.specs.declared.ask.Heard.TheVariants as heard
use Rattle.txn_dialogue.specs.Slots.{Seen, SeenVacant, SeenLive}
use Rattle.txn_dialogue.specs.Ending.{StepEnd, slot_of}
use Rattle.txn_dialogue.specs.Loose.{LooseEnd}
use Rattle.txn_dialogue.specs.Entries.{StepItem}

-- how many blocks there are behind an ask that was answered so
abbrev pub blocks_after : Asked → Heard → ℕ → ℕ
blocks_after ask.Block (heard.Block true) n = n + 1
blocks_after ask.GiveBack h n = n - 1
blocks_after a h n = n

-- a block goes back only where there is one
abbrev pub HasToGive : Asked → ℕ → Type 0
HasToGive ask.GiveBack n = 0 < n
HasToGive a n = Unit {0}

-- From so many blocks, whatever is answered, the course comes to an end that has as many more as were answered, less those that
-- went back.
abbrev pub Balanced : {End : Type 0} → (End → ℕ) → Course Asked Heard End → ℕ → Type 0
Balanced held (Ends end) n = held end ≡ n
Balanced held (Asks a next) n = HasToGive a n × ((h : Heard) → Balanced held (next h) (blocks_after a h n))
Balanced held (Takes short on) n = Balanced held short n × Balanced held on n

-- the blocks of a slot
abbrev pub blocks_in : Seen → ℕ
blocks_in (SeenVacant generation) = 0
blocks_in (SeenLive live) = live.blocks

abbrev pub blocks_at : StepEnd → ℕ
blocks_at end = blocks_in (slot_of end)

-- a datagram without a slot has none
abbrev pub no_blocks : LooseEnd → ℕ
no_blocks end = 0

-- how many blocks were answered, and how many went back
abbrev pub blocks_taken : List StepItem → ℕ
blocks_taken [] = 0
blocks_taken (Told ask.Block (heard.Block true) ∷ items) = blocks_taken items + 1
blocks_taken (item ∷ items) = blocks_taken items

abbrev pub blocks_given : List StepItem → ℕ
blocks_given [] = 0
blocks_given (Told ask.GiveBack h ∷ items) = blocks_given items + 1
blocks_given (item ∷ items) = blocks_given items
