-- What is asked in a step, and in which order.
use Rattle.std.specs.Prelude.{◌≡◌, ℕ, ◌⊎◌, Bool, true, false, ◌||◌, Option, Some, None}
use Rattle.dialogue.specs.Course.{Course, Ends, Asks, Takes}
use Rattle.claim_words.specs.declared.By.TheVariants.{Continued}
use Rattle.claim_words.specs.declared.ClaimEnd.TheVariants.{Won}
use Rattle.host_meaning.specs.declared.ask.Asked.{Asked}
use Rattle.host_meaning.specs.declared.ask.Asked.TheVariants as ask
use Rattle.host_meaning.specs.declared.ask.Heard.{Heard}
use Rattle.host_meaning.specs.declared.ask.Heard.TheVariants as heard
use Rattle.host_meaning.specs.declared.ask.JobOrder.TheVariants as order
use Rattle.host_meaning.specs.Run.{is_readable}
use Rattle.txn_dialogue.specs.declared.mark.Mark.{Mark}
use Rattle.txn_dialogue.specs.Slots.{Seen, SeenVacant, SeenLive}
use Rattle.txn_dialogue.specs.Ending.{StepCourse, Done, slot_of}

-- ---- what is sent

-- a datagram that is sent reads as a message
abbrev pub ReadsIfSent : Asked → Type 0
ReadsIfSent (ask.Send to text) = is_readable text ≡ true
ReadsIfSent a = Unit {0}

abbrev pub SendsRead : {End : Type 0} → Course Asked Heard End → Type 0
SendsRead (Ends end) = Unit {0}
SendsRead (Asks a next) = ReadsIfSent a × ((h : Heard) → SendsRead (next h))
SendsRead (Takes short on) = SendsRead short × SendsRead on

-- ---- datagrams come last

abbrev pub is_send : Asked → Bool
is_send (ask.Send to text) = true
is_send a = false

-- what is asked at the end of a step, for which no memory is taken
abbrev pub is_of_end : Asked → Bool
is_of_end (ask.Send to text) = true
is_of_end ask.GiveBack = true
is_of_end (ask.Due at) = true
is_of_end ask.Free = true
is_of_end a = false

-- Once a datagram was sent, only what is of the end is asked, and no memory is taken.
abbrev pub SendsLast : {End : Type 0} → Course Asked Heard End → Bool → Type 0
SendsLast (Ends end) sent = Unit {0}
SendsLast (Asks a next) sent = (sent ≡ true → is_of_end a ≡ true) × ((h : Heard) → SendsLast (next h) (sent || is_send a))
SendsLast (Takes short on) sent = (sent ≡ false) × SendsLast short sent × SendsLast on sent

-- ---- the end of a step

-- how far a step is: it decides; it sends; it gives blocks back; its place in the wheel is told; its slot is free
pub data Phase : Type 0 where
  Deciding : Phase
  Sending : Phase
  GivingBack : Phase
  Leaving : Phase
  Freed : Phase

-- the phase behind an ask; none where the ask has no place
abbrev pub phase_after : Phase → Asked → Option Phase
phase_after Deciding (ask.Send to text) = Some Sending
phase_after Deciding (ask.Due at) = Some Leaving
phase_after Deciding ask.Free = None
phase_after Deciding a = Some Deciding
phase_after Sending (ask.Send to text) = Some Sending
phase_after Sending ask.GiveBack = Some GivingBack
phase_after Sending (ask.Due at) = Some Leaving
phase_after Sending a = None
phase_after GivingBack ask.GiveBack = Some GivingBack
phase_after GivingBack (ask.Due at) = Some Leaving
phase_after GivingBack a = None
phase_after Leaving ask.Free = Some Freed
phase_after Leaving a = None
phase_after Freed a = None

-- a slot stays live once its place is told, and is vacant once it is free
abbrev pub EndsAt : Phase → Seen → Type 0
EndsAt Leaving (SeenLive live) = Unit {0}
EndsAt Freed (SeenVacant generation) = Unit {0}
EndsAt phase slot = ⊥

-- The datagrams come behind all that is decided, then the blocks that go back, then the place in the wheel, and last the free slot.
abbrev pub InOrder : StepCourse → Phase → Type 0
InOrder (Ends end) phase = EndsAt phase (slot_of end)
InOrder (Asks a next) phase = (later : Phase) × (phase_after phase a ≡ Some later) × ((h : Heard) → InOrder (next h) later)
InOrder (Takes short on) phase = (phase ≡ Deciding) × InOrder short phase × InOrder on phase

-- the step ends at once, and its slot is as it was
abbrev pub IsIdle : Seen → StepCourse → Type 0
IsIdle seen c = (mark : Mark) × (c ≡ Ends (Done seen mark))

abbrev pub IsInOrder : Seen → StepCourse → Type 0
IsInOrder seen c = IsIdle seen c ⊎ InOrder c Deciding

-- ---- continuations

-- what is to be ordered behind an ask that was answered so: a suspension, by its slot and serial, that was won for a continuation
abbrev pub to_order : Asked → Heard → Option (ℕ × ℕ)
to_order (ask.Claim slot serial Continued) (heard.Claim (Won place)) = Some (slot, serial)
to_order a h = None

-- what is to be ordered is ordered by this ask, and no continuation is where none is to be
abbrev pub Orders : Option (ℕ × ℕ) → Asked → Type 0
Orders None (ask.Post (order.Continue slot serial route)) = ⊥
Orders None a = Unit {0}
Orders (Some won) (ask.Post (order.Continue slot serial route)) = won ≡ (slot, serial)
Orders (Some won) a = ⊥

-- A continuation is ordered right behind the claim that it won, with nothing asked and no memory taken in between; and every one
-- that is won is ordered.
abbrev pub OrdersAtOnce : {End : Type 0} → Course Asked Heard End → Option (ℕ × ℕ) → Type 0
OrdersAtOnce (Ends end) won = won ≡ None
OrdersAtOnce (Asks a next) won = Orders won a × ((h : Heard) → OrdersAtOnce (next h) (to_order a h))
OrdersAtOnce (Takes short on) won = (won ≡ None) × OrdersAtOnce short won × OrdersAtOnce on won
