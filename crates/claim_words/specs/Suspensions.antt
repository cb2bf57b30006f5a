-- The suspensions of a slot, and what it means to open and to claim them.
-- A slot has one item for each suspension, by serial from 1: it is open, or somebody has ended it.
use Rattle.std.specs.Prelude.{◌≡◌, ℕ, zero, suc, ◌+◌, ◌-◌, cond, ◌==◌, ◌||◌, nat_lt, Option, Some, None, List, [], ◌∷◌, ◌++◌, length, slice_index_or, slice_set}
use Rattle.histories.specs.Runs.{folded, EachAnswers}
use Rattle.histories.specs.Records.{records}
use Rattle.histories.specs.declared.record.Recorded.{Recorded}
use Rattle.claim_words.specs.declared.By.{By}
use Rattle.claim_words.specs.declared.ClaimEnd.{ClaimEnd}
use Rattle.claim_words.specs.declared.ClaimEnd.TheVariants.{Won, Lost, Past, Unknown}
use Rattle.claim_words.specs.declared.ClaimRecord.{ClaimRecord}
use Rattle.claim_words.specs.declared.ClaimRecord.TheVariants.{Opened, Claimed}

-- None is an open suspension. The latest serial is the length of the list
abbrev pub Suspensions : Type 0
Suspensions = List (Option By)

-- the most suspensions of a slot: 2^60
abbrev pub most : ℕ
most = 1152921504606846976

-- the suspension of a serial
abbrev pub suspension : Suspensions → ℕ → Option By
suspension xs zero = None
suspension xs (suc n) = slice_index_or xs n None

-- Open: one more is opened, whose serial is the latest
abbrev pub opened : Suspensions → Suspensions
opened xs = xs ++ None ∷ []

-- only who comes first ends it
abbrev pub ended_by : Option By → By → Option By
ended_by None by = Some by
ended_by (Some first) by = Some first

-- Claim: the latest is ended, where it is open
abbrev pub claimed : Suspensions → ℕ → By → Suspensions
claimed xs serial by = cond (serial == length xs) (slice_set xs (serial - 1) (ended_by (suspension xs serial) by)) xs

-- the claim of the latest was won where it was open, and lost to who ended it
abbrev pub end_at : Option By → ℕ → ClaimEnd
end_at None serial = Won (serial - 1)
end_at (Some by) serial = Lost by

-- what a claim comes to
abbrev pub claim_end : Suspensions → ℕ → ClaimEnd
claim_end xs serial = cond (serial == 0 || nat_lt (length xs) serial) Unknown (cond (nat_lt serial (length xs)) (Past (length xs)) (end_at (suspension xs serial) serial))

-- what a record makes of the suspensions
abbrev pub after : Suspensions → ClaimRecord → Suspensions
after xs (Opened serial) = opened xs
after xs (Claimed serial by end) = claimed xs serial by

-- the answer of a record is the one that the suspensions before it give
abbrev pub IsAnswer : Suspensions → ClaimRecord → Type 0
IsAnswer xs (Opened serial) = serial ≡ length xs + 1
IsAnswer xs (Claimed serial by end) = end ≡ claim_end xs serial

-- a record of a slot's history, with the worker who opened or claimed
abbrev pub ClaimEntry : Type 0
ClaimEntry = Recorded ClaimRecord

-- the suspensions that a slot's history made
abbrev pub suspensions : List ClaimEntry → Suspensions
suspensions h = folded after [] (records h)

-- each answer in a slot's history is the definition's at its place
abbrev pub IsClaimHistory : List ClaimEntry → Type 0
IsClaimHistory h = EachAnswers IsAnswer after [] (records h)

-- how often the claim of a serial was won
abbrev pub win : ℕ → ClaimRecord → ℕ
win serial (Claimed s by (Won place)) = cond (s == serial) 1 0
win serial r = 0

abbrev pub wins : ℕ → List ClaimRecord → ℕ
wins serial [] = 0
wins serial (r ∷ rs) = win serial r + wins serial rs
