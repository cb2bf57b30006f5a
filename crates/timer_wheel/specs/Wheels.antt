-- The wheel: lists of slots, by the moments when their timers are due.
use Rattle.std.specs.Prelude.{◌≡◌, ℕ, ◌<◌, ◌^◌, Option, None, IfSome, length, slice_index_or}
use Rattle.timer_wheel.specs.declared.wheel.Timer.{Timer}
use Rattle.timer_wheel.specs.Timers.{Timers, HasTimer, GoesFirst, IsFirst}
use Rattle.timer_wheel.specs.Rings.{Places, IsIn}
use Rattle.timer_wheel.specs.Levels.{list_by}

-- of the timers of the slots in list k, the one that goes off first, and its slot
pub record IsFirstIn (places : Places) (k : ℕ) (timers : Timers) (slot : ℕ) (timer : Timer) : Type 0 where
  pub is_in : IsIn places slot k
  pub is_set : HasTimer timers slot timer
  pub goes_first : (j : ℕ) (other : Timer) → IsIn places j k → HasTimer timers j other → GoesFirst timer.due slot other.due j

-- no slot of list k has a timer
abbrev pub NoTimerIn : Places → ℕ → Timers → Type 0
NoTimerIn places k timers = (slot : ℕ) (timer : Timer) → IsIn places slot k → ¬ HasTimer timers slot timer

-- what is known of the timer that goes off first: nothing, or its slot and the timer
abbrev pub IsKnown : Timers → Option (ℕ × Timer) → Type 0
IsKnown timers known = IfSome known (λ first. IsFirst timers first.0 first.1)

-- a wheel with these timers: each slot is in the list of its timer's moment, and a slot without one in none
pub record IsWheel (timers : Timers) (places : Places) (last : ℕ) (known : Option (ℕ × Timer)) : Type 0 where
  pub few : length timers < 2 ^ 32
  pub many : length places ≡ length timers
  pub placed : (slot : ℕ) → slot < length timers → slice_index_or places slot None ≡ list_by last (slice_index_or timers slot None)
  pub known_first : IsKnown timers known
