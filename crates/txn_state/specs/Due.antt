-- The first timer of several lists of timers.
use Rattle.std.specs.Prelude.{◌≡◌, ℕ, Bool, true, false, List, Option, Some, None, nat_lt, filter}
use Rattle.txn_client.specs.declared.machine.ClientTimer.{ClientTimer}
use Rattle.txn_dialogue.specs.declared.happening.ArmedTimer.{ArmedTimer}
use Rattle.txn_dialogue.specs.declared.happening.BranchTimer.TheVariants as branch_timer
use Rattle.txn_dialogue.specs.declared.happening.SlotTimer.{SlotTimer}
use Rattle.txn_dialogue.specs.declared.happening.SlotTimer.TheVariants as slot_timer
use Rattle.txn_dialogue.specs.Timers.{earlier, first_timer}

-- the timers that are due above a moment; without one, all
abbrev pub above : Option ℕ → List ArmedTimer → List ArmedTimer
above None timers = timers
above (Some now) timers = filter (λ t. nat_lt now t.due) timers

abbrev pub is_above : Option ℕ → ℕ → Bool
is_above None due = true
is_above (Some now) due = nat_lt now due

-- of a timer and a later one the first
abbrev pub first_of : Option ArmedTimer → Option ArmedTimer → Option ArmedTimer
first_of None later = later
first_of (Some t) later = Some (earlier t later)

-- the first one so far, and then the first one of these too
abbrev pub Adds : Option ℕ → Option ArmedTimer → List ArmedTimer → Option ArmedTimer → Type 0
Adds moment first timers result = result ≡ first_of first (first_timer (above moment timers))

-- a timer of the client of a branch, or of that of its CANCEL
abbrev pub client_timer_of : ℕ → Bool → ClientTimer → SlotTimer
client_timer_of n false t = slot_timer.Branch n (branch_timer.Client t)
client_timer_of n true t = slot_timer.Branch n (branch_timer.Cancel t)
