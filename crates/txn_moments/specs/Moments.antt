-- Timer values (RFC 3261, section 17.1.1.1 and 17.1.2.1) and the moments at which timers are due, in milliseconds.
use Rattle.std.specs.Prelude.{ℕ, ◌+◌, ◌*◌, ◌-◌, ◌^◌, min}

abbrev pub t1 : ℕ
t1 = 500

abbrev pub t2 : ℕ
t2 = 4000

abbrev pub t4 : ℕ
t4 = 5000

-- the greatest moment, which is the greatest u64
abbrev pub last_moment : ℕ
last_moment = 2 ^ 64 - 1

-- the moment `wait` after `now`
abbrev pub moment_after : ℕ → ℕ → ℕ
moment_after now wait = min (now + wait) last_moment

-- the interval of timer A after this one
abbrev pub doubled : ℕ → ℕ
doubled interval = min (2 * interval) last_moment

-- the interval of timers E and G after this one
abbrev pub doubled_up_to_t2 : ℕ → ℕ
doubled_up_to_t2 interval = min (2 * interval) t2
