-- Marks and the history that they stand for.
use Rattle.std.proofs.Common.{◌≡◌, ◌≢◌, ℕ, ◌<◌, ◌≤◌, ◌⊎◌, inl, inr, Bool, true, List, [], ◌∷◌, ◌++◌, length, take, drop, slice_index, slice_index_or, slice_set, get_or-set_same, get_or-set_other, length-set, refl, sym, ◌∙◌, ap, subst, arith}
use Rattle.std.proofs.lemmas.Bool.Decides.{nat_tests}
use Rattle.std.proofs.Math.Seq.{take-append_seam}
use Rattle.fork_core.specs.declared.context.Context.{Context}
use Rattle.fork_core.specs.declared.context.BranchMark.{BranchMark}
use Rattle.fork_core.specs.declared.context.BranchMark.TheVariants.{Open, Succeeded, Kept}
use Rattle.fork_core.specs.Responses.{BranchResponse, History, IsSuccessCode, IsFailureCode, IsFinalCode, HasNoFinal, FirstFinal, IsKeptFinal, with_response}
use Rattle.fork_core.specs.Choices.{IsToCancel, IsChallenged, IsChallengeCode, Joins}
use Rattle.fork_core.specs.Histories.{HasHistory, Says, branch_count, branch_mark, mark_after, IsChallengeMark}
use Rattle.fork_core.proofs.Finals.{all_append, first_branch, first_has, first_append, first_new, first_not_none, first_unique, success_final, failure_final, not_both}

-- the classes of a code
data Class (code : ℕ) : Type 0 where
  success : IsSuccessCode code → Class code
  failure : IsFailureCode code → Class code
  neither : (IsFinalCode code → ⊥) → Class code

below : (a b : ℕ) → (a < b) ⊎ (b ≤ a)
below a b = grind arith

class : (code : ℕ) → Class code
class code =
    elim (below code 200) [
      | inl l ↦ neither (λ f. omega (arith, f.0))
      | inr g ↦ elim (below code 300) [
        | inl l ↦ success (g, l)
        | inr g ↦ elim (below code 700) [ inl l ↦ failure (g, l) | inr g ↦ neither (λ f. omega (arith, f.1)) ]
      ]
    ]

after_success : (code : ℕ) → IsSuccessCode code → mark_after Open code ≡ Succeeded
after_success code h = grind (arith, nat_tests)

after_failure : (code : ℕ) → IsFailureCode code → mark_after Open code ≡ Kept code
after_failure code h = grind (arith, nat_tests)

after_neither : (code : ℕ) → (IsFinalCode code → ⊥) → mark_after Open code ≡ Open
after_neither code not =
    elim (below code 200) [
      | inl l ↦ grind (arith, nat_tests)
      | inr g ↦ elim (below code 700) [ inl l ↦ absurd (not (g, l)) | inr g' ↦ grind (arith, nat_tests) ]
    ]

says_other : (xs : List BranchResponse) (n : ℕ) (a : BranchResponse) (m : BranchMark) → (a.branch ≡ n → ⊥) → Says xs n m → Says (xs ++ a ∷ []) n m
says_other xs n a Open other none = all_append _ xs a none (λ is. absurd (other is))
says_other xs n a Succeeded other says = (says.0, first_append n xs says.0 a says.1, says.2)
says_other xs n a (Kept code) other says = (says.0, first_append n xs says.0 a says.1, says.2, says.3)

says_open : (xs : List BranchResponse) (n : ℕ) (a : BranchResponse) → a.branch ≡ n → HasNoFinal xs n → Class a.code → Says (xs ++ a ∷ []) n (mark_after Open a.code)
says_open xs n a is none (success s) =
    subst (λ m. Says (xs ++ a ∷ []) n m) (sym (after_success a.code s)) (a, first_new n xs a none is (success_final a.code s), s)
says_open xs n a is none (failure f) =
    subst (λ m. Says (xs ++ a ∷ []) n m) (sym (after_failure a.code f)) (a, first_new n xs a none is (failure_final a.code f), refl, f)
says_open xs n a is none (neither not) =
    subst (λ m. Says (xs ++ a ∷ []) n m) (sym (after_neither a.code not)) (all_append _ xs a none (λ e. not))

says_same : (xs : List BranchResponse) (n : ℕ) (a : BranchResponse) (m : BranchMark) → a.branch ≡ n → Says xs n m → Says (xs ++ a ∷ []) n (mark_after m a.code)
says_same xs n a Open is none = says_open xs n a is none (class a.code)
says_same xs n a Succeeded is says = (says.0, first_append n xs says.0 a says.1, says.2)
says_same xs n a (Kept code) is says = (says.0, first_append n xs says.0 a says.1, says.2, says.3)

pub same_or : (n m : ℕ) → (n ≡ m) ⊎ (n ≡ m → ⊥)
same_or n m = grind arith

-- all elements were written
refilled : (xs ws : List BranchMark) → length ws ≡ length xs → take (length xs) (ws ++ drop (length ws) xs) ≡ ws
refilled xs ws e =
    let ends : take (length ws) (ws ++ drop (length ws) xs) ≡ ws = take-append_seam ws (drop (length ws) xs) in
    subst (λ n. take n (ws ++ drop (length ws) xs) ≡ ws) e ends

pub refilled_set : (xs ys : List BranchMark) (i : ℕ) (m : BranchMark) → ys ≡ xs → take (length xs) (slice_set ys i m ++ drop (length (slice_set ys i m)) xs) ≡ slice_set xs i m
refilled_set xs ys i m e =
    refilled xs (slice_set ys i m) (length-set ys i m ∙ ap length e) ∙ ap (λ l. slice_set l i m) e

-- a branch is marked by one response more
pub counts : (c new : Context) (b code : ℕ) (answered : Bool) (h : History) → HasHistory c h → b < branch_count c →
    new.invite ≡ c.invite → new.first ≡ c.first → new.marks.items ≡ slice_set c.marks.items b (mark_after (branch_mark c b) code) →
    HasHistory new (with_response h b code answered)
counts c new b code answered h s inside invite first marks =
    let a : BranchResponse = record { round = slice_index h.branches b; branch = b; code = code; answered = answered } in
    let long : length new.marks.items ≡ length h.branches = ap length marks ∙ (length-set c.marks.items b _ ∙ s.count) in
    record {
      invite = invite ∙ s.invite;
      count = long;
      past = s.past;
      current = subst (λ f. (branch : ℕ) → branch < length h.branches → ((f ≤ branch) → slice_index h.branches branch ≡ h.round) × ((slice_index h.branches branch ≡ h.round) → f ≤ branch)) (sym first) s.current;
      bound = subst (λ f. f ≤ length h.branches) (sym first) s.bound;
      marks = λ n below.
          elim (same_or b n) [
            | inl e ↦
                let now : branch_mark new n ≡ mark_after (branch_mark c n) code =
                ap (λ l. slice_index_or l n Open) marks ∙ subst (λ k. slice_index_or (slice_set c.marks.items b (mark_after (branch_mark c b) code)) k Open ≡ mark_after (branch_mark c k) code) e
                (get_or-set_same c.marks.items b _ Open inside) in
                subst (λ m. Says (h.responses ++ a ∷ []) n m) (sym now) (says_same h.responses n a (branch_mark c n) e (s.marks n below))
            | inr other ↦
                let now : branch_mark new n ≡ branch_mark c n =
                ap (λ l. slice_index_or l n Open) marks ∙ get_or-set_other c.marks.items b n _ Open (λ e. other (sym e)) in
                subst (λ m. Says (h.responses ++ a ∷ []) n m) (sym now) (says_other h.responses n a (branch_mark c n) other (s.marks n below))
          ];
      known = all_append _ h.responses a s.known (subst (λ l. b < l) s.count inside, refl);
    }

-- a kept response of a branch, and the mark that says so
pub mark_of_kept : (c : Context) (h : History) → HasHistory c h → (a : BranchResponse) → IsKeptFinal h a →
    (a.branch < length h.branches) × (branch_mark c a.branch ≡ Kept a.code) × (a.round ≡ slice_index h.branches a.branch)
mark_of_kept c h s a kept =
    let known = first_has (λ x. (x.branch < length h.branches) × (x.round ≡ slice_index h.branches x.branch)) a.branch h.responses a kept.counts s.known in
    (known.0, is_mark (branch_mark c a.branch) (s.marks a.branch known.0), known.1)
  where
    is_mark : (m : BranchMark) → Says h.responses a.branch m → m ≡ Kept a.code
    is_mark Open none = absurd (first_not_none a.branch h.responses a kept.counts none)
    is_mark Succeeded says =
        absurd (not_both a.code (subst (λ (x : BranchResponse). IsSuccessCode x.code) (first_unique a.branch h.responses says.0 a says.1 kept.counts) says.2) kept.failure)
    is_mark (Kept code) says = ap Kept (sym says.2 ∙ ap (λ (x : BranchResponse). x.code) (first_unique a.branch h.responses says.0 a says.1 kept.counts))

-- a branch that is marked so has a kept response
pub record KeptAt (h : History) (n code : ℕ) : Type 0 where
  pub response : BranchResponse
  pub kept : IsKeptFinal h response
  pub branch : response.branch ≡ n
  pub code_is : response.code ≡ code
  pub round : response.round ≡ slice_index h.branches n

pub kept_at : (c : Context) (h : History) → HasHistory c h → (n code : ℕ) → n < length h.branches → branch_mark c n ≡ Kept code → KeptAt h n code
kept_at c h s n code inside is =
    let says : Says h.responses n (Kept code) = subst (λ m. Says h.responses n m) is (s.marks n inside) in
    let e : says.0.branch ≡ n = first_branch n h.responses says.0 says.1 in
    let known = first_has (λ x. (x.branch < length h.branches) × (x.round ≡ slice_index h.branches x.branch)) n h.responses says.0 says.1 s.known in
    record {
      response = says.0;
      kept = record { counts = subst (λ k. FirstFinal k h.responses says.0) (sym e) says.1; failure = subst (λ k. IsFailureCode k) (sym says.2) says.3 };
      branch = e;
      code_is = says.2;
      round = known.1 ∙ ap (λ k. slice_index h.branches k) e;
    }

-- the branches that have no final response
pub open_of_none : (c : Context) (h : History) → HasHistory c h → (n : ℕ) → n < length h.branches → HasNoFinal h.responses n → branch_mark c n ≡ Open
open_of_none c h s n inside none = go (branch_mark c n) (s.marks n inside)
  where
    go : (m : BranchMark) → Says h.responses n m → m ≡ Open
    go Open says = refl
    go Succeeded says = absurd (first_not_none n h.responses says.0 says.1 none)
    go (Kept code) says = absurd (first_not_none n h.responses says.0 says.1 none)

pub none_of_open : (c : Context) (h : History) → HasHistory c h → (n : ℕ) → n < length h.branches → branch_mark c n ≡ Open → HasNoFinal h.responses n
none_of_open c h s n inside is = subst (λ m. Says h.responses n m) is (s.marks n inside)

pub to_cancel_is : (c : Context) (h : History) → HasHistory c h → c.invite ≡ true → (n : ℕ) →
    ((n < branch_count c) × (branch_mark c n ≡ Open) → IsToCancel h n) × (IsToCancel h n → (n < branch_count c) × (branch_mark c n ≡ Open))
to_cancel_is c h s invite n = (
  (λ w. let inside : n < length h.branches = subst (λ l. n < l) s.count w.0 in (sym s.invite ∙ invite, inside, none_of_open c h s n inside w.1)),
  λ w. (subst (λ l. n < l) (sym s.count) w.1, open_of_none c h s n w.1 w.2),
)

-- the branches with a challenge in this round
challenge_mark : (m : BranchMark) → IsChallengeMark m → (code : ℕ) × (m ≡ Kept code) × IsChallengeCode code
challenge_mark Open w = absurd w
challenge_mark Succeeded w = absurd w
challenge_mark (Kept code) w = (code, refl, w)

pub challenged_is : (c : Context) (h : History) → HasHistory c h → (n : ℕ) →
    ((n < branch_count c) × (c.first ≤ n) × IsChallengeMark (branch_mark c n) → IsChallenged h n) ×
    (IsChallenged h n → (n < branch_count c) × (c.first ≤ n) × IsChallengeMark (branch_mark c n))
challenged_is c h s n = (there, back)
  where
    there : (n < branch_count c) × (c.first ≤ n) × IsChallengeMark (branch_mark c n) → IsChallenged h n
    there w =
        let inside : n < length h.branches = subst (λ l. n < l) s.count w.0 in
        let m = challenge_mark (branch_mark c n) w.2 in
        let k = kept_at c h s n m.0 inside m.1 in
        (k.response, record { kept = k.kept; now = k.round ∙ (s.current n inside).0 w.1 }, k.branch, subst IsChallengeCode (sym k.code_is) m.2)

    back : IsChallenged h n → (n < branch_count c) × (c.first ≤ n) × IsChallengeMark (branch_mark c n)
    back w =
        let m = mark_of_kept c h s w.0 w.1.kept in
        let inside : n < length h.branches = subst (λ k. k < length h.branches) w.2 m.0 in
        let now : slice_index h.branches n ≡ h.round = subst (λ k. slice_index h.branches k ≡ h.round) w.2 (sym m.2 ∙ w.1.now) in
        let mark : branch_mark c n ≡ Kept w.0.code = subst (λ k. branch_mark c k ≡ Kept w.0.code) w.2 m.1 in
        (subst (λ l. n < l) (sym s.count) inside, (s.current n inside).1 now, subst IsChallengeMark (sym mark) w.3)

pub joins_is : (c : Context) (h : History) → HasHistory c h → (chosen : ℕ) → IsChallenged h chosen → (n : ℕ) →
    ((n < branch_count c) × ((n ≢ chosen) × (c.first ≤ n) × IsChallengeMark (branch_mark c n)) → Joins h chosen n) ×
    (Joins h chosen n → (n < branch_count c) × ((n ≢ chosen) × (c.first ≤ n) × IsChallengeMark (branch_mark c n)))
joins_is c h s chosen challenged n = (
  (λ w. (challenged, (challenged_is c h s n).0 (w.0, w.1.1, w.1.2), w.1.0)),
  λ w. let m = (challenged_is c h s n).1 w.1 in (m.0, (w.2, m.1, m.2)),
)
