-- What a wheel holds, and which of its timers goes off first.
use Rattle.std.specs.Prelude.{◌≡◌, ℕ, ◌<◌, ◌≤◌, ◌⊎◌, List, Option, Some, slice_get}
use Rattle.timer_wheel.specs.declared.wheel.Timer.{Timer}

-- by the number of each slot, the timer that is set there, or None
abbrev pub Timers : Type 0
Timers = List (Option Timer)

-- the slot has this timer
abbrev pub HasTimer : Timers → ℕ → Timer → Type 0
HasTimer timers slot timer = slice_get timers slot ≡ Some (Some timer)

-- no slot has a timer
abbrev pub IsIdle : Timers → Type 0
IsIdle timers = (slot : ℕ) (timer : Timer) → ¬ HasTimer timers slot timer

-- each timer is due after `now`
abbrev pub NoneIsDue : Timers → ℕ → Type 0
NoneIsDue timers now = (slot : ℕ) (timer : Timer) → HasTimer timers slot timer → now < timer.due

-- a timer that is due at `due` in `slot` does not go off after the other: it is due earlier, or at that moment in no greater slot
abbrev pub GoesFirst : ℕ → ℕ → ℕ → ℕ → Type 0
GoesFirst due slot other_due other_slot = (due < other_due) ⊎ ((due ≡ other_due) × (slot ≤ other_slot))

-- the timer of the wheel that goes off first, and its slot
pub record IsFirst (timers : Timers) (slot : ℕ) (timer : Timer) : Type 0 where
  pub is_set : HasTimer timers slot timer
  pub goes_first : (k : ℕ) (other : Timer) → HasTimer timers k other → GoesFirst timer.due slot other.due k

-- the least moment at which a timer of the wheel is due
pub record IsLeastDue (timers : Timers) (due : ℕ) : Type 0 where
  pub is_set : (slot : ℕ) × (timer : Timer) × HasTimer timers slot timer × (timer.due ≡ due)
  pub is_least : (slot : ℕ) (timer : Timer) → HasTimer timers slot timer → due ≤ timer.due
