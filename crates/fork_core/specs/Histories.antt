-- What a context has to do with the history of its request.
use Rattle.std.specs.Prelude.{◌≡◌, ℕ, ◌<◌, ◌≤◌, ◌↔◌, List, length, slice_index, slice_index_or, nat_lt, if◌then◌else◌, Bool, true, false}
use Rattle.std.specs.List.{AllByRecursion}
use Rattle.fork_core.specs.declared.context.Context.{Context}
use Rattle.fork_core.specs.declared.context.BranchMark.{BranchMark}
use Rattle.fork_core.specs.declared.context.BranchMark.TheVariants.{Open, Succeeded, Kept}
use Rattle.fork_core.specs.Choices.{IsChallengeCode}
use Rattle.fork_core.specs.Responses.{BranchResponse, History, IsSuccessCode, IsFailureCode, HasNoFinal, FirstFinal}

-- how many branches a context has
abbrev pub branch_count : Context → ℕ
branch_count c = length c.marks.items

-- the mark of a branch
abbrev pub branch_mark : Context → ℕ → BranchMark
branch_mark c branch = slice_index_or c.marks.items branch Open

-- the mark of a branch after a response with this code
abbrev pub mark_after : BranchMark → ℕ → BranchMark
mark_after Open code =
    if nat_lt code 200 then Open
    else if nat_lt code 300 then Succeeded
    else if nat_lt code 700 then Kept code
    else Open
mark_after Succeeded code = Succeeded
mark_after (Kept kept) code = Kept kept

-- the mark of a response of 300 to 699
abbrev pub is_kept_mark : BranchMark → Bool
is_kept_mark Open = false
is_kept_mark Succeeded = false
is_kept_mark (Kept code) = true

-- the mark of a 401 or 407
abbrev pub IsChallengeMark : BranchMark → Type 0
IsChallengeMark Open = ⊥
IsChallengeMark Succeeded = ⊥
IsChallengeMark (Kept code) = IsChallengeCode code

-- what a mark says of the responses of its branch
abbrev pub Says : List BranchResponse → ℕ → BranchMark → Type 0
Says responses branch Open = HasNoFinal responses branch
Says responses branch Succeeded = (a : BranchResponse) × FirstFinal branch responses a × IsSuccessCode a.code
Says responses branch (Kept code) = (a : BranchResponse) × FirstFinal branch responses a × (a.code ≡ code) × IsFailureCode code

-- A context stands for a history: a new one for one without a branch, and each call leads from one that it stands for to the
-- next.
pub record HasHistory (c : Context) (h : History) : Type 0 where
  pub invite : c.invite ≡ h.invite
  pub count : branch_count c ≡ length h.branches
  pub past : (branch : ℕ) → branch < length h.branches → slice_index h.branches branch ≤ h.round
  pub current : (branch : ℕ) → branch < length h.branches → (c.first ≤ branch) ↔ (slice_index h.branches branch ≡ h.round)
  pub bound : c.first ≤ length h.branches
  pub marks : (branch : ℕ) → branch < length h.branches → Says h.responses branch (branch_mark c branch)
  pub known : AllByRecursion (λ a. (a.branch < length h.branches) × (a.round ≡ slice_index h.branches a.branch)) h.responses
