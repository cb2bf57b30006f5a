-- What each call of a wheel answers and leaves: the wheel as a relation between its timers, a record and its timers after it.
use Rattle.std.specs.Prelude.{◌≡◌, ℕ, ◌<◌, ◌≤◌, Option, Some, None, length, slice_set}
use Rattle.timer_wheel.specs.declared.wheel.Timer.{Timer}
use Rattle.timer_wheel.specs.declared.record.WheelRecord.{WheelRecord}
use Rattle.timer_wheel.specs.declared.record.WheelRecord.TheVariants.{Set, Clear, Pop, Next}
use Rattle.timer_wheel.specs.Timers.{Timers, IsFirst, NoneIsDue, IsLeastDue, IsIdle}

-- the timer that a pop answered, and its slot
abbrev pub popped_timer : ℕ × ℕ × ℕ → Timer
popped_timer popped = record { generation = popped.1; due = popped.2 }

-- what a wheel with these timers answers: a pop the timer that goes off first, where that is due, and else none
abbrev pub WheelAnswers : Timers → WheelRecord → Type 0
WheelAnswers timers (Set slot timer) = slot < length timers
WheelAnswers timers (Clear slot) = slot < length timers
WheelAnswers timers (Pop now (Some popped)) = IsFirst timers popped.0 (popped_timer popped) × (popped.2 ≤ now)
WheelAnswers timers (Pop now None) = NoneIsDue timers now
WheelAnswers timers (Next (Some due)) = IsLeastDue timers due
WheelAnswers timers (Next None) = IsIdle timers

-- the timers after a call
abbrev pub timers_after : Timers → WheelRecord → Timers
timers_after timers (Set slot timer) = slice_set timers slot (Some timer)
timers_after timers (Clear slot) = slice_set timers slot None
timers_after timers (Pop now (Some popped)) = slice_set timers popped.0 None
timers_after timers (Pop now None) = timers
timers_after timers (Next due) = timers

abbrev pub WheelStep : Timers → WheelRecord → Timers → Type 0
WheelStep old r new = WheelAnswers old r × (new ≡ timers_after old r)
