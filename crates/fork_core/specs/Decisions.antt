-- The choices of `Choices` as functions of the history, for definitions that go on from a choice. That each is what the relation
-- names is a law of this crate.
use Rattle.std.specs.Prelude.{ℕ, ◌==◌, ◌&&◌, ◌||◌, not, Bool, nat_le, nat_lt, if◌then◌else◌, Option, Some, None, List, [], ◌∷◌, length, filter, slice_index}
use Rattle.std.specs.List.{list_all, list_any, range_with_len}
use Rattle.fork_core.specs.declared.context.Forwarding.{Forwarding}
use Rattle.fork_core.specs.declared.context.Forwarding.TheVariants.{Now, Kept, Nothing}
use Rattle.fork_core.specs.Responses.{BranchResponse, History}
use Rattle.fork_core.specs.Preference.{group_of, place_in_class}

-- a response of 200 to 699, and one of 300 to 699
abbrev pub is_final_code : ℕ → Bool
is_final_code code = nat_le 200 code && nat_lt code 700

abbrev pub is_failure_code : ℕ → Bool
is_failure_code code = nat_le 300 code && nat_lt code 700

abbrev pub is_challenge_code : ℕ → Bool
is_challenge_code code = (code == 401) || (code == 407)

-- the responses of the other branches
abbrev pub of_others : ℕ → List BranchResponse → List BranchResponse
of_others branch = filter (λ r. not (r.branch == branch))

-- the first final response of each branch, in the order in which they came
abbrev pub first_finals : List BranchResponse → List BranchResponse
first_finals [] = []
first_finals (r ∷ later) = if is_final_code r.code then r ∷ of_others r.branch (first_finals later) else first_finals later

-- the kept responses of the round
abbrev pub kept_now : History → List BranchResponse
kept_now h = filter (λ r. is_failure_code r.code && (r.round == h.round)) (first_finals h.responses)

-- a response is preferred to another: by class, then by place, then by code, then by the number of the branch
abbrev pub is_preferred : BranchResponse → BranchResponse → Bool
is_preferred r s =
    if not (group_of r.code == group_of s.code) then nat_lt (group_of r.code) (group_of s.code)
    else if not (place_in_class r.code == place_in_class s.code) then nat_lt (place_in_class r.code) (place_in_class s.code)
    else if not (r.code == s.code) then nat_lt r.code s.code
    else nat_lt r.branch s.branch

-- the first, unless the second is there and preferred to it
abbrev pub better : BranchResponse → Option BranchResponse → BranchResponse
better r None = r
better r (Some s) = if is_preferred s r then s else r

-- the response of the list to which no other is preferred
abbrev pub most_preferred : List BranchResponse → Option BranchResponse
most_preferred [] = None
most_preferred (r ∷ later) = Some (better r (most_preferred later))

-- the best final response of the round; none where none is kept
abbrev pub best_of : History → Option BranchResponse
best_of h = most_preferred (kept_now h)

-- the numbers of all branches, in order
abbrev pub branches_of : History → List ℕ
branches_of h = range_with_len 0 (length h.branches)

-- whether one of these responses came on the branch
abbrev pub is_branch_of : ℕ → List BranchResponse → Bool
is_branch_of branch = list_any (λ r. r.branch == branch)

-- the branches of an INVITE that have no final response
abbrev pub to_cancel : History → List ℕ
to_cancel h = if h.invite then filter (λ branch. not (is_branch_of branch (first_finals h.responses))) (branches_of h) else []

-- whether the round has a kept 401 or 407 of this branch
abbrev pub is_challenged : History → ℕ → Bool
is_challenged h branch = is_branch_of branch (filter (λ r. is_challenge_code r.code) (kept_now h))

-- the branches whose challenge joins that of the chosen one; none where it has none
abbrev pub challenges : History → ℕ → List ℕ
challenges h chosen =
    if is_challenged h chosen then filter (λ branch. is_challenged h branch && not (branch == chosen)) (branches_of h) else []

-- whether each branch of the round has a final response, and none was a 2xx
abbrev pub has_failed : History → Bool
has_failed h =
    list_all (λ branch. not (slice_index h.branches branch == h.round) || is_branch_of branch (filter (λ r. is_failure_code r.code) (first_finals h.responses)))
    (branches_of h)

-- whether a response goes on at once: a provisional one other than 100, or a 2xx
abbrev pub goes_on_now : History → ℕ → Bool → Bool
goes_on_now h code answered =
    (nat_le 101 code && nat_lt code 200 && not answered) || (nat_le 200 code && nat_lt code 300 && (h.invite || not answered))

-- whether it is kept: a 300 to 699 on a branch that has no final response yet
abbrev pub is_to_keep : History → ℕ → ℕ → Bool
is_to_keep h branch code = is_failure_code code && not (is_branch_of branch (first_finals h.responses))

-- what becomes of a response with this code on this branch
abbrev pub forwarding_of : History → ℕ → ℕ → Bool → Forwarding
forwarding_of h branch code answered = if goes_on_now h code answered then Now else if is_to_keep h branch code then Kept else Nothing
