-- Courses along which all laws of asks hold at once, and each of these laws from that.
use Rattle.std.proofs.Common.{◌≡◌, ℕ, Bool, true, false, ◌||◌, Option, Some, None, IsSome, unwrap_or, refl, subst}
use Rattle.std.proofs.lemmas.Bool.{false≢true}
use Rattle.dialogue.specs.Course.{Course, Ends, Asks, Takes, and_then}
use Rattle.host_meaning.specs.declared.ask.Asked.{Asked}
use Rattle.host_meaning.specs.declared.ask.Asked.TheVariants as ask
use Rattle.host_meaning.specs.declared.ask.Heard.{Heard}
use Rattle.txn_dialogue.specs.Ending.{StepEnd, StepCourse, slot_of}
use Rattle.txn_dialogue.specs.Blocks.{blocks_after, HasToGive, Balanced}
use Rattle.txn_dialogue.specs.Shortage.{short_after, AbortsShort}
use Rattle.txn_dialogue.specs.Order.{ReadsIfSent, SendsRead, is_send, is_of_end, SendsLast, Phase, Deciding, Sending, GivingBack, Leaving, Freed, phase_after, EndsAt, InOrder, to_order, Orders, OrdersAtOnce}

-- what is known on the way: whether the run may take no block; whether memory was short; how many blocks there are; what is to be
-- ordered; how far the step is
pub record Mood : Type 0 where
  pub loose : Bool
  pub short : Bool
  pub blocks : ℕ
  pub won : Option (ℕ × ℕ)
  pub phase : Phase

-- while a step decides
abbrev pub mood : (loose short : Bool) → ℕ → Mood
mood loose short blocks = record { loose = loose; short = short; blocks = blocks; won = None; phase = Deciding }

abbrev pub after : Asked → Heard → Mood → Mood
after a h m = record {
  loose = m.loose;
  short = short_after a h m.short;
  blocks = blocks_after a h m.blocks;
  won = to_order a h;
  phase = unwrap_or (phase_after m.phase a) m.phase;
}

abbrev pub shorted : Mood → Mood
shorted m = record m { short = true }

-- a loose run takes no block and opens no suspension
abbrev pub MayTake : Asked → Bool → Type 0
MayTake ask.Block loose = loose ≡ false
MayTake ask.Open loose = loose ≡ false
MayTake a loose = Unit {0}

abbrev pub Allowed : Asked → Mood → Type 0
Allowed a m = MayTake a m.loose × HasToGive a m.blocks × ReadsIfSent a × Orders m.won a × IsSome (phase_after m.phase a)

abbrev pub IsFree : Mood → Type 0
IsFree m = (m.won ≡ None) × (m.phase ≡ Deciding)

abbrev pub Watched : {End : Type 0} → (End → Mood → Type 0) → Course Asked Heard End → Mood → Type 0
Watched fin (Ends end) m = fin end m
Watched fin (Asks a next) m = Allowed a m × ((h : Heard) → Watched fin (next h) (after a h m))
Watched fin (Takes short on) m = IsFree m × Watched fin short (shorted m) × Watched fin on m

module _ {Middle End : Type 0} where
  -- a course, and what comes after it
  pub watched_then : (fin : Middle → Mood → Type 0) (fin' : End → Mood → Type 0) (next : Middle → Course Asked Heard End)
      → ((end : Middle) (m : Mood) → fin end m → Watched fin' (next end) m)
      → (c : Course Asked Heard Middle) (m : Mood) → Watched fin c m → Watched fin' (and_then c next) m
  watched_then fin fin' next p (Ends end) m w = p end m w
  watched_then fin fin' next p (Asks a f) m w = (w.0, λ h. watched_then fin fin' next p (f h) (after a h m) (w.1 h))
  watched_then fin fin' next p (Takes short on) m w = (w.0, watched_then fin fin' next p short (shorted m) w.1, watched_then fin fin' next p on m w.2)

-- ---- each law

module _ {End : Type 0} (fin : End → Mood → Type 0) where
  pub balanced : (held : End → ℕ) → ((end : End) (m : Mood) → fin end m → held end ≡ m.blocks)
      → (c : Course Asked Heard End) (m : Mood) → Watched fin c m → Balanced held c m.blocks
  balanced held p (Ends end) m w = p end m w
  balanced held p (Asks a next) m w = (w.0.1, λ h. balanced held p (next h) (after a h m) (w.1 h))
  balanced held p (Takes short on) m w = (balanced held p short (shorted m) w.1, balanced held p on m w.2)

  pub sends_read : (c : Course Asked Heard End) (m : Mood) → Watched fin c m → SendsRead c
  sends_read (Ends end) m w = tt
  sends_read (Asks a next) m w = (w.0.2, λ h. sends_read (next h) (after a h m) (w.1 h))
  sends_read (Takes short on) m w = (sends_read short (shorted m) w.1, sends_read on m w.2)

  pub orders_at_once : ((end : End) (m : Mood) → fin end m → m.won ≡ None)
      → (c : Course Asked Heard End) (m : Mood) → Watched fin c m → OrdersAtOnce c m.won
  orders_at_once p (Ends end) m w = p end m w
  orders_at_once p (Asks a next) m w = (w.0.3, λ h. orders_at_once p (next h) (after a h m) (w.1 h))
  orders_at_once p (Takes short on) m w = (w.0.0, orders_at_once p short (shorted m) w.1, orders_at_once p on m w.2)

  pub aborts_short : (aborted : End → Bool) → ((end : End) (m : Mood) → fin end m → aborted end ≡ true → m.short ≡ true)
      → (c : Course Asked Heard End) (m : Mood) → Watched fin c m → AbortsShort aborted c m.short
  aborts_short aborted p (Ends end) m w = p end m w
  aborts_short aborted p (Asks a next) m w = λ h. aborts_short aborted p (next h) (after a h m) (w.1 h)
  aborts_short aborted p (Takes short on) m w = (aborts_short aborted p short (shorted m) w.1, aborts_short aborted p on m w.2)

-- once a datagram was sent the step decides no more
abbrev WasSent : Bool → Phase → Type 0
WasSent true Deciding = ⊥
WasSent sent phase = Unit {0}

sent_ends : (sent : Bool) (phase : Phase) (a : Asked) → WasSent sent phase → IsSome (phase_after phase a) → sent ≡ true → is_of_end a ≡ true
sent_ends false phase a s p e = absurd (false≢true e)
sent_ends true Deciding a s p e = absurd s
sent_ends true Sending (ask.Send to text) s p e = refl
sent_ends true Sending ask.GiveBack s p e = refl
sent_ends true Sending (ask.Due at) s p e = refl
sent_ends true Sending a s p e = absurd (false≢true p)
sent_ends true GivingBack ask.GiveBack s p e = refl
sent_ends true GivingBack (ask.Due at) s p e = refl
sent_ends true GivingBack a s p e = absurd (false≢true p)
sent_ends true Leaving ask.Free s p e = refl
sent_ends true Leaving a s p e = absurd (false≢true p)
sent_ends true Freed a s p e = absurd (false≢true p)

sent_after : (sent : Bool) (phase : Phase) (a : Asked) → WasSent sent phase → WasSent (sent || is_send a) (unwrap_or (phase_after phase a) phase)
sent_after true Deciding a s = absurd s
sent_after true Sending (ask.Send to text) s = tt
sent_after true Sending ask.GiveBack s = tt
sent_after true Sending (ask.Due at) s = tt
sent_after true Sending a s = tt
sent_after true GivingBack ask.GiveBack s = tt
sent_after true GivingBack (ask.Due at) s = tt
sent_after true GivingBack a s = tt
sent_after true Leaving ask.Free s = tt
sent_after true Leaving a s = tt
sent_after true Freed a s = tt
sent_after false Deciding (ask.Send to text) s = tt
sent_after false Deciding a s = tt
sent_after false Sending (ask.Send to text) s = tt
sent_after false Sending ask.GiveBack s = tt
sent_after false Sending (ask.Due at) s = tt
sent_after false Sending a s = tt
sent_after false GivingBack ask.GiveBack s = tt
sent_after false GivingBack (ask.Due at) s = tt
sent_after false GivingBack (ask.Send to text) s = tt
sent_after false GivingBack a s = tt
sent_after false Leaving ask.Free s = tt
sent_after false Leaving (ask.Send to text) s = tt
sent_after false Leaving a s = tt
sent_after false Freed (ask.Send to text) s = tt
sent_after false Freed a s = tt

not_sent : (sent : Bool) (phase : Phase) → WasSent sent phase → phase ≡ Deciding → sent ≡ false
not_sent true phase s e = absurd (subst (WasSent true) e s)
not_sent false phase s e = refl

module _ {End : Type 0} (fin : End → Mood → Type 0) where
  pub sends_last : (c : Course Asked Heard End) (m : Mood) (sent : Bool) → WasSent sent m.phase → Watched fin c m → SendsLast c sent
  sends_last (Ends end) m sent s w = tt
  sends_last (Asks a next) m sent s w =
      (sent_ends sent m.phase a s w.0.4, λ h. sends_last (next h) (after a h m) (sent || is_send a) (sent_after sent m.phase a s) (w.1 h))
  sends_last (Takes short on) m sent s w = (not_sent sent m.phase s w.0.1, sends_last short (shorted m) sent s w.1, sends_last on m sent s w.2)

-- the order of a step
some_is : (o : Option Phase) (other : Phase) → IsSome o → o ≡ Some (unwrap_or o other)
some_is None other e = absurd (false≢true e)
some_is (Some phase) other e = refl

pub in_order : (fin : StepEnd → Mood → Type 0) → ((end : StepEnd) (m : Mood) → fin end m → EndsAt m.phase (slot_of end))
    → (c : StepCourse) (m : Mood) → Watched fin c m → InOrder c m.phase
in_order fin p (Ends end) m w = p end m w
in_order fin p (Asks a next) m w =
    (unwrap_or (phase_after m.phase a) m.phase, some_is (phase_after m.phase a) m.phase w.0.4, λ h. in_order fin p (next h) (after a h m) (w.1 h))
in_order fin p (Takes short on) m w = (w.0.1, in_order fin p short (shorted m) w.1, in_order fin p on m w.2)
