-- First final responses, and lists of responses that grow at the end.
use Rattle.std.proofs.Common.{◌≡◌, ℕ, List, [], ◌∷◌, ◌++◌, refl, arith}
use Rattle.std.specs.List.{AllByRecursion}
use Rattle.fork_core.specs.Responses.{BranchResponse, IsSuccessCode, IsFailureCode, IsFinalCode, HasNoFinal, FirstFinal}
use Rattle.fork_core.specs.Responses.FirstFinal.{here, after}

pub all_append : (P : BranchResponse → Type 0) (xs : List BranchResponse) (a : BranchResponse) → AllByRecursion P xs → P a → AllByRecursion P (xs ++ a ∷ [])
all_append P [] a all p = (p, tt)
all_append P (x ∷ xs) a all p = (all.0, all_append P xs a all.1 p)

pub all_map : (P Q : BranchResponse → Type 0) → ((a : BranchResponse) → P a → Q a) → (xs : List BranchResponse) → AllByRecursion P xs → AllByRecursion Q xs
all_map P Q f [] all = tt
all_map P Q f (x ∷ xs) all = (f x all.0, all_map P Q f xs all.1)

pub first_branch : (n : ℕ) (xs : List BranchResponse) (a : BranchResponse) → FirstFinal n xs a → a.branch ≡ n
first_branch n _ a (here _ later is final) = is
first_branch n _ a (after x later _ not first) = first_branch n later a first

pub first_final : (n : ℕ) (xs : List BranchResponse) (a : BranchResponse) → FirstFinal n xs a → IsFinalCode a.code
first_final n _ a (here _ later is final) = final
first_final n _ a (after x later _ not first) = first_final n later a first

pub first_has : (P : BranchResponse → Type 0) (n : ℕ) (xs : List BranchResponse) (a : BranchResponse) → FirstFinal n xs a → AllByRecursion P xs → P a
first_has P n _ a (here _ later is final) all = all.0
first_has P n _ a (after x later _ not first) all = first_has P n later a first all.1

pub first_append : (n : ℕ) (xs : List BranchResponse) (a b : BranchResponse) → FirstFinal n xs a → FirstFinal n (xs ++ b ∷ []) a
first_append n _ a b (here _ later is final) = here a (later ++ b ∷ []) is final
first_append n _ a b (after x later _ not first) = after x (later ++ b ∷ []) a not (first_append n later a b first)

pub first_new : (n : ℕ) (xs : List BranchResponse) (a : BranchResponse) → HasNoFinal xs n → a.branch ≡ n → IsFinalCode a.code → FirstFinal n (xs ++ a ∷ []) a
first_new n [] a none is final = here a [] is final
first_new n (x ∷ xs) a none is final = after x (xs ++ a ∷ []) a none.0 (first_new n xs a none.1 is final)

pub first_not_none : (n : ℕ) (xs : List BranchResponse) (a : BranchResponse) → FirstFinal n xs a → HasNoFinal xs n → ⊥
first_not_none n _ a (here _ later is final) none = none.0 is final
first_not_none n _ a (after x later _ not first) none = first_not_none n later a first none.1

pub first_unique : (n : ℕ) (xs : List BranchResponse) (a b : BranchResponse) → FirstFinal n xs a → FirstFinal n xs b → a ≡ b
first_unique n [] a b first _ = elim first [ ]
first_unique n (x ∷ xs) a b (here _ _ is final) (here _ _ is' final') = refl
first_unique n (x ∷ xs) a b (here _ _ is final) (after _ _ _ not first) = absurd (not is final)
first_unique n (x ∷ xs) a b (after _ _ _ not first) (here _ _ is final) = absurd (not is final)
first_unique n (x ∷ xs) a b (after _ _ _ not first) (after _ _ _ not' first') = first_unique n xs a b first first'

pub success_final : (code : ℕ) → IsSuccessCode code → IsFinalCode code
success_final code h = (h.0, omega (arith, h.1))

pub failure_final : (code : ℕ) → IsFailureCode code → IsFinalCode code
failure_final code h = (omega (arith, h.0), h.1)

pub not_both : (code : ℕ) → IsSuccessCode code → IsFailureCode code → ⊥
not_both code s f = absurd (omega (arith, s.1, f.0))
