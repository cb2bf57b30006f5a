-- The first timer of lists that are joined.
use Rattle.std.proofs.Common.{arith, cond, ◌+◌, ◌≡◌, ℕ, List, [], ◌∷◌, ◌++◌, Option, Some, None, refl, sym, ap, ◌∙◌, subst, Bool, true, false, filter}
use Rattle.std.proofs.lemmas.Bool.Decides.{nat_tests}
use Rattle.std.specs.Prelude.{nat_lt, suc}
use Rattle.host_meaning.specs.Run.{Received}
use Rattle.txn_dialogue.specs.declared.happening.ArmedTimer.{ArmedTimer}
use Rattle.txn_state.specs.declared.branch.Branch.{Branch}
use Rattle.txn_state.specs.Kept.{branch_shown, branches_shown}
use Rattle.txn_dialogue.specs.Timers.{earlier, first_timer, branch_timers, branches_timers}
use Rattle.txn_state.specs.Due.{above, first_of, Adds}

least : (a b c : ArmedTimer) → earlier a (Some (earlier b (Some c))) ≡ earlier (earlier a (Some b)) (Some c)
least a b c = grind (arith, nat_tests)

together : (x y z : Option ArmedTimer) → first_of (first_of x y) z ≡ first_of x (first_of y z)
together None y z = refl
together (Some a) None z = refl
together (Some a) (Some b) None = refl
together (Some a) (Some b) (Some c) = ap Some (sym (least a b c))

joined : (xs ys : List ArmedTimer) → first_timer (xs ++ ys) ≡ first_of (first_timer xs) (first_timer ys)
joined [] ys = refl
joined (x ∷ xs) ys = ap (first_of (Some x)) (joined xs ys) ∙ sym (together (Some x) (first_timer xs) (first_timer ys))

pick : (b : Bool) (x : ArmedTimer) (u v w : List ArmedTimer) → u ≡ v ++ w → cond b (x ∷ u) u ≡ cond b (x ∷ v) v ++ w
pick true x u v w e = ap (λ l. x ∷ l) e
pick false x u v w e = e

filtered : (now : ℕ) (xs ys : List ArmedTimer) → filter (λ (t : ArmedTimer). nat_lt now t.due) (xs ++ ys) ≡ filter (λ t. nat_lt now t.due) xs ++ filter (λ t. nat_lt now t.due) ys
filtered now [] ys = refl
filtered now (x ∷ xs) ys = pick (nat_lt now x.due) x _ _ _ (filtered now xs ys)

above_joined : (moment : Option ℕ) (xs ys : List ArmedTimer) → above moment (xs ++ ys) ≡ above moment xs ++ above moment ys
above_joined None xs ys = refl
above_joined (Some now) xs ys = filtered now xs ys

pub both : (moment : Option ℕ) (first : Option ArmedTimer) (xs ys : List ArmedTimer) (middle last : Option ArmedTimer) → Adds moment first xs middle → Adds moment middle ys last → Adds moment first (xs ++ ys) last
both moment first xs ys middle last e f =
    f ∙ ap (λ m. first_of m (first_timer (above moment ys))) e
    ∙ together first (first_timer (above moment xs)) (first_timer (above moment ys))
    ∙ ap (first_of first) (sym (ap first_timer (above_joined moment xs ys) ∙ joined (above moment xs) (above moment ys)))

-- the same where the second call says its moment by itself
pub next : (moment moment' : Option ℕ) (first : Option ArmedTimer) (xs ys : List ArmedTimer) (middle last : Option ArmedTimer) → moment' ≡ moment → Adds moment first xs middle → Adds moment' middle ys last → Adds moment first (xs ++ ys) last
next moment moment' first xs ys middle last same e f = both moment first xs ys middle last e (subst (λ m. Adds m middle ys last) same f)

none_more : (first : Option ArmedTimer) → first ≡ first_of first None
none_more None = refl
none_more (Some t) = refl

no_timers : (moment : Option ℕ) → above moment [] ≡ []
no_timers None = refl
no_timers (Some now) = refl

pub nothing : (moment : Option ℕ) (first : Option ArmedTimer) → Adds moment first [] first
nothing moment first = none_more first ∙ ap (λ l. first_of first (first_timer l)) (sym (no_timers moment))

-- one branch more, and then those behind it
pub walks : (request : Received) (moment moment' : Option ℕ) (first middle last : Option ArmedTimer) (n : ℕ) (b : Branch) (bs rest : List Branch) → bs ≡ b ∷ rest → moment' ≡ moment →
    Adds moment first (branch_timers n (branch_shown request b)) middle → Adds moment' middle (branches_timers (n + 1) (branches_shown request rest)) last →
    Adds moment first (branches_timers n (branches_shown request bs)) last
walks request moment moment' first middle last n b bs rest here same e f =
    let one : n + 1 ≡ suc n = omega arith in
    subst (λ l. Adds moment first (branches_timers n (branches_shown request l)) last) (sym here)
    (next moment moment' first (branch_timers n (branch_shown request b)) (branches_timers (suc n) (branches_shown request rest)) middle last same e
    (subst (λ k. Adds moment' middle (branches_timers k (branches_shown request rest)) last) one f))

-- no branch is left
pub walked : (request : Received) (moment : Option ℕ) (first : Option ArmedTimer) (n : ℕ) (bs : List Branch) → bs ≡ [] → Adds moment first (branches_timers n (branches_shown request bs)) first
walked request moment first n bs e = subst (λ l. Adds moment first (branches_timers n (branches_shown request l)) first) (sym e) (nothing moment first)
