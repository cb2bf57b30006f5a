-- What becomes of responses: which go on at once, which is the best, which branches are cancelled, and which challenges are
-- joined (RFC 3261, section 16.7, steps 4 to 7 and 10; RFC 6026, section 7).
use Rattle.std.specs.Prelude.{◌≡◌, ◌≢◌, ℕ, ◌<◌, ◌⊎◌, ◌↔◌, Bool, true, false, List, length, Contains, slice_index}
use Rattle.std.specs.List.{AllByRecursion}
use Rattle.std.specs.List.Sorted.{IsStrictlyIncreasing}
use Rattle.fork_core.specs.Responses.{BranchResponse, History, IsProvisionalCode, IsSuccessCode, IsFailureCode, HasNoFinal, FirstFinal, IsKeptNow}
use Rattle.fork_core.specs.Preference.{Preferred}

-- A response goes on at once: a provisional one other than 100 while no final response was sent; a 2xx to an INVITE always, and
-- to another request while no final response was sent.
abbrev pub GoesOnNow : History → ℕ → Bool → Type 0
GoesOnNow h code answered =
    (IsProvisionalCode code × (code ≢ 100) × (answered ≡ false)) ⊎ (IsSuccessCode code × ((h.invite ≡ true) ⊎ (answered ≡ false)))

-- a response of 300 to 699 is kept on a branch that has no final response yet
abbrev pub IsToKeep : History → ℕ → ℕ → Type 0
IsToKeep h branch code = IsFailureCode code × HasNoFinal h.responses branch

-- the best response: no other of the round is preferred to it
pub record IsBest (h : History) (a : BranchResponse) : Type 0 where
  pub kept : IsKeptNow h a
  pub best : (other : BranchResponse) → IsKeptNow h other → ¬ Preferred other.code other.branch a.code a.branch

-- the numbers of which something holds, in order
pub record AreAllNumbers (P : ℕ → Type 0) (numbers : List ℕ) : Type 0 where
  pub rising : IsStrictlyIncreasing numbers
  pub all : (n : ℕ) → Contains numbers n ↔ P n

-- a branch of an INVITE is to be cancelled while it has no final response
abbrev pub IsToCancel : History → ℕ → Type 0
IsToCancel h branch = (h.invite ≡ true) × (branch < length h.branches) × HasNoFinal h.responses branch

abbrev pub IsChallengeCode : ℕ → Type 0
IsChallengeCode code = (code ≡ 401) ⊎ (code ≡ 407)

-- a 401 or 407 is kept for this branch in this round
abbrev pub IsChallenged : History → ℕ → Type 0
IsChallenged h branch = (a : BranchResponse) × IsKeptNow h a × (a.branch ≡ branch) × IsChallengeCode a.code

-- a branch's challenge joins the chosen response: both are challenges of this round, on two branches
abbrev pub Joins : History → ℕ → ℕ → Type 0
Joins h chosen branch = IsChallenged h chosen × IsChallenged h branch × (branch ≢ chosen)

-- The round has failed: each of its branches has a final response, and none was a 2xx. A final response is the first one of its
-- branch, and a round without a branch has failed.
abbrev pub HasFailed : History → Type 0
HasFailed h =
    (branch : ℕ) → branch < length h.branches → slice_index h.branches branch ≡ h.round →
    (r : BranchResponse) × FirstFinal branch h.responses r × IsFailureCode r.code

-- each response came on a branch of the request, as in every history that a context stands for
abbrev pub AreOfItsBranches : History → Type 0
AreOfItsBranches h = AllByRecursion (λ r. r.branch < length h.branches) h.responses
