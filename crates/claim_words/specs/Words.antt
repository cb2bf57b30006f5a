-- The word of a slot: `ways` times its latest serial, and the number of the way in which that suspension was ended, or 0.
-- What each way is in a word stands here and nowhere else, and in src/word.rt.
use Rattle.std.specs.Prelude.{ℕ, ◌+◌, ◌-◌, ◌*◌, ◌/◌, ◌%◌, cond, ◌==◌, ◌||◌, nat_lt, Option, Some, None, length}
use Rattle.claim_words.specs.declared.By.{By}
use Rattle.claim_words.specs.declared.By.TheVariants.{Continued, TimedOut, Cancelled}
use Rattle.claim_words.specs.declared.ClaimEnd.{ClaimEnd}
use Rattle.claim_words.specs.declared.ClaimEnd.TheVariants.{Won, Lost, Past, Unknown}
use Rattle.claim_words.specs.Suspensions.{Suspensions, suspension}

-- a number above that of each way
abbrev pub ways : ℕ
ways = 4

-- the number of each way
abbrev pub code : By → ℕ
code Continued = 1
code TimedOut = 2
code Cancelled = 3

abbrev pub by_of : ℕ → By
by_of n = cond (n == 1) Continued (cond (n == 2) TimedOut Cancelled)

-- the number of a suspension: 0 while it is open
abbrev pub way_number : Option By → ℕ
way_number None = 0
way_number (Some by) = code by

abbrev pub word_of : Suspensions → ℕ
word_of xs = ways * length xs + way_number (suspension xs (length xs))

-- what a claim comes to at a word
abbrev pub end_by_word : ℕ → ℕ → ClaimEnd
end_by_word word serial = cond (serial == 0 || nat_lt (word / ways) serial) Unknown (cond (nat_lt serial (word / ways)) (Past (word / ways)) (cond (word % ways == 0) (Won (serial - 1)) (Lost (by_of (word % ways)))))
