-- Claims on one thread: a list of words, which stands for the suspensions of each slot.
use Rattle.std.specs.Prelude.{◌≡◌, ℕ, ◌+◌, cond, nat_lt, Bool, List, length, map, slice_set}
use Rattle.claim_words.specs.declared.By.{By}
use Rattle.claim_words.specs.Lists.{nth_list}
use Rattle.claim_words.specs.Suspensions.{Suspensions, opened, claimed, most}
use Rattle.claim_words.specs.Words.{word_of}

-- the suspensions of each slot
abbrev pub AllSuspensions : Type 0
AllSuspensions = List Suspensions

-- the words stand for these suspensions
abbrev pub StandFor : List ℕ → AllSuspensions → Type 0
StandFor words all = words ≡ map word_of all

-- the slot has room for one more
abbrev pub has_serials : AllSuspensions → ℕ → Bool
has_serials all k = nat_lt (length (nth_list all k)) most

-- after an open of slot k, which finds room or changes nothing
abbrev pub opened_at : AllSuspensions → ℕ → AllSuspensions
opened_at all k = cond (has_serials all k) (slice_set all k (opened (nth_list all k))) all

-- the serial that it answers: the new latest, or where there is no room the latest of all
abbrev pub serial_at : AllSuspensions → ℕ → ℕ
serial_at all k = cond (has_serials all k) (length (nth_list all k) + 1) most

-- after a claim
abbrev pub claimed_at : AllSuspensions → ℕ → ℕ → By → AllSuspensions
claimed_at all k serial by = slice_set all k (claimed (nth_list all k) serial by)
