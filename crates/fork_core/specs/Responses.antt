-- What a response context has seen of a forked request (RFC 3261, section 16.7): its rounds, its branches and their responses.
use Rattle.std.specs.Prelude.{◌≡◌, ℕ, ◌+◌, ◌<◌, ◌≤◌, Bool, List, [], ◌∷◌, ◌++◌, slice_index}
use Rattle.std.specs.List.{AllByRecursion}

-- A response that a branch passed up, or that was counted for it: the branch and the round of that branch, the status code,
-- and whether the server had sent a final response by then.
pub record BranchResponse : Type 0 where
  pub round : ℕ
  pub branch : ℕ
  pub code : ℕ
  pub answered : Bool

-- Whether the request is an INVITE, the number of the round, the round of each branch in order of number, and all responses in
-- the order in which they came.
pub record History : Type 0 where
  pub invite : Bool
  pub round : ℕ
  pub branches : List ℕ
  pub responses : List BranchResponse

-- a request before its first branch
abbrev pub at_first : Bool → History
at_first invite = record { invite = invite; round = 0; branches = []; responses = [] }

-- the same with one branch more, of this round
abbrev pub with_branch : History → History
with_branch h = record h { branches = h.branches ++ h.round ∷ [] }

-- the same in the next round
abbrev pub next_round : History → History
next_round h = record h { round = h.round + 1 }

-- the same with one response more
abbrev pub with_response : History → ℕ → ℕ → Bool → History
with_response h branch code answered =
    record h { responses = h.responses ++ record { round = slice_index h.branches branch; branch = branch; code = code; answered = answered } ∷ [] }

abbrev pub IsProvisionalCode : ℕ → Type 0
IsProvisionalCode code = (100 ≤ code) × (code < 200)

abbrev pub IsSuccessCode : ℕ → Type 0
IsSuccessCode code = (200 ≤ code) × (code < 300)

abbrev pub IsFailureCode : ℕ → Type 0
IsFailureCode code = (300 ≤ code) × (code < 700)

abbrev pub IsFinalCode : ℕ → Type 0
IsFinalCode code = (200 ≤ code) × (code < 700)

-- the branch has no final response among these
abbrev pub HasNoFinal : List BranchResponse → ℕ → Type 0
HasNoFinal responses branch = AllByRecursion (λ a. a.branch ≡ branch → ¬ IsFinalCode a.code) responses

-- the first final response that came on a branch: with it the branch is counted
pub data FirstFinal (branch : ℕ) : List BranchResponse → BranchResponse → Type 0 where
  here : (a : BranchResponse) (later : List BranchResponse) → a.branch ≡ branch → IsFinalCode a.code → FirstFinal branch (a ∷ later) a
  after : (x : BranchResponse) (later : List BranchResponse) (a : BranchResponse) → (x.branch ≡ branch → ¬ IsFinalCode x.code) → FirstFinal branch later a →
      FirstFinal branch (x ∷ later) a

-- a response of 300 to 699 is kept where it counted its branch
pub record IsKeptFinal (h : History) (a : BranchResponse) : Type 0 where
  pub counts : FirstFinal a.branch h.responses a
  pub failure : IsFailureCode a.code

-- a response of this round is kept
pub record IsKeptNow (h : History) (a : BranchResponse) : Type 0 where
  pub kept : IsKeptFinal h a
  pub now : a.round ≡ h.round
