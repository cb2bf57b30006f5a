-- The round has failed just where each of its marks is kept.
use Rattle.std.proofs.Common.{◌≡◌, ℕ, zero, suc, ◌<◌, ◌≤◌, Bool, true, List, [], ◌∷◌, length, drop, get_or, refl, sym, subst, arith}
use Rattle.std.specs.List.{list_all}
use Rattle.std.proofs.lemmas.Bool.{false≢true, and_parts, and_from}
use Rattle.std.proofs.lemmas.Bool.Decides.{same_from_decides}
use Rattle.fork_core.specs.declared.context.Context.{Context}
use Rattle.fork_core.specs.declared.context.BranchMark.{BranchMark}
use Rattle.fork_core.specs.declared.context.BranchMark.TheVariants.{Open, Succeeded, Kept}
use Rattle.fork_core.specs.Responses.{BranchResponse, History, FirstFinal, IsSuccessCode, IsFailureCode}
use Rattle.fork_core.specs.Choices.{HasFailed}
use Rattle.fork_core.specs.Decisions.{has_failed}
use Rattle.fork_core.specs.Histories.{HasHistory, Says, branch_mark, is_kept_mark}
use Rattle.fork_core.proofs.Finals.{first_unique, first_not_none, not_both}
use Rattle.fork_core.proofs.Decided.{failed_is, is_failed}

-- each element from a place on
at_each : {X : Type 0} (p : X → Bool) (d : X) (from : ℕ) (xs : List X) → list_all p (drop from xs) ≡ true →
    (k : ℕ) → from ≤ k → k < length xs → p (get_or xs k d) ≡ true
at_each p d from [] e k low high = absurd (omega (arith, high))
at_each p d zero (x ∷ xs) e zero low high = (and_parts (p x) (list_all p xs) e).0
at_each p d zero (x ∷ xs) e (suc k) low high = at_each p d zero xs (and_parts (p x) (list_all p xs) e).1 k (omega arith) (omega (arith, high))
at_each p d (suc from) (x ∷ xs) e zero low high = absurd (omega (arith, low))
at_each p d (suc from) (x ∷ xs) e (suc k) low high = at_each p d from xs e k (omega (arith, low)) (omega (arith, high))

from_each : {X : Type 0} (p : X → Bool) (d : X) (from : ℕ) (xs : List X) →
    ((k : ℕ) → from ≤ k → k < length xs → p (get_or xs k d) ≡ true) → list_all p (drop from xs) ≡ true
from_each p d zero [] each = refl
from_each p d (suc from) [] each = refl
from_each p d zero (x ∷ xs) each =
    and_from (p x) (list_all p xs) (each zero (omega arith) (omega arith))
    (from_each p d zero xs (λ k low high. each (suc k) (omega arith) (omega (arith, high))))
from_each p d (suc from) (x ∷ xs) each = from_each p d from xs (λ k low high. each (suc k) (omega (arith, low)) (omega (arith, high)))

pub failed : (c : Context) (h : History) → HasHistory c h → list_all is_kept_mark (drop c.first c.marks.items) ≡ true → HasFailed h
failed c h s e = λ n inside now.
    go n (branch_mark c n) (s.marks n inside)
    (at_each is_kept_mark Open c.first c.marks.items e n ((s.current n inside).1 now) (subst (λ l. n < l) (sym s.count) inside))
  where
    go : (n : ℕ) (m : BranchMark) → Says h.responses n m → is_kept_mark m ≡ true → (r : BranchResponse) × FirstFinal n h.responses r × IsFailureCode r.code
    go n Open says t = absurd (false≢true t)
    go n Succeeded says t = absurd (false≢true t)
    go n (Kept code) says t = (says.0, says.1, subst IsFailureCode (sym says.2) says.3)

pub all_kept : (c : Context) (h : History) → HasHistory c h → HasFailed h → list_all is_kept_mark (drop c.first c.marks.items) ≡ true
all_kept c h s each =
    from_each is_kept_mark Open c.first c.marks.items
    (λ n low high.
    let inside : n < length h.branches = subst (λ l. n < l) s.count high in
    let w = each n inside ((s.current n inside).0 low) in go n (branch_mark c n) (s.marks n inside) w.0 w.1 w.2)
  where
    go : (n : ℕ) (m : BranchMark) → Says h.responses n m → (r : BranchResponse) → FirstFinal n h.responses r → IsFailureCode r.code → is_kept_mark m ≡ true
    go n Open says r first failure = absurd (first_not_none n h.responses r first says)
    go n Succeeded says r first failure =
        absurd (not_both r.code (subst (λ (x : BranchResponse). IsSuccessCode x.code) (first_unique n h.responses says.0 r says.1 first) says.2) failure)
    go n (Kept code) says r first failure = refl

pub failed_value : (c : Context) (h : History) → HasHistory c h → list_all is_kept_mark (drop c.first c.marks.items) ≡ has_failed h
failed_value c h s = same_from_decides _ _ (failed c h s, all_kept c h s) (failed_is h, is_failed h)
