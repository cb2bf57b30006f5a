use Rattle.std.proofs.Common.{◌≡◌, ◌≢◌, ◌≤◌, ℕ, sym, subst, arith}
use Rattle.fork_core.specs.Responses.{History}
use Rattle.fork_core.specs.Choices.{AreAllNumbers, Joins}
use Rattle.fork_core.specs.Histories.{HasHistory, branch_mark, branch_count, IsChallengeMark}
use Rattle.fork_core.proofs.Numbers.{ListsBelow, push_is, skip_is, all_of, none_of}
use Rattle.fork_core.proofs.Decided.{joined_is}
use Rattle.fork_core.proofs.Standing.{joins_is, challenged_is}
use Rattle.fork_core.proofs.context.Context.challenges.Goals as goal
use Rattle.fork_core.proofs.context.Context.challenges.Goals.{then-joins, else-joins}

pub loop-b-preserved : goal.loop-b-preserved
loop-b-preserved c =
    let P : ℕ → Type 0 = λ k. (k ≢ c.args.chosen) × (c.args.self.now.first ≤ k) × IsChallengeMark (branch_mark c.args.self.now k) in
    let J : ℕ → Type 0 = λ j. (c.loop-b.b ≢ j) × (c.args.self.now.first ≤ c.loop-b.b) × IsChallengeMark (branch_mark c.args.self.now c.loop-b.b) in
    elim c.if-joins.branch [
      | then-joins w ↦
          push_is P c.loop-b.branches.items c.if-joins.branches.items c.loop-b.b c.loop-b.invariant (subst J c.from-in-loop-b.ensures (c.joins.ensures.0 w.if-joins.true)) (cc)
      | else-joins w ↦
          skip_is P c.loop-b.branches.items c.if-joins.branches.items c.loop-b.b c.loop-b.invariant (λ p. let t = c.joins.ensures.1 (subst J (sym c.from-in-loop-b.ensures) p) in absurd (cc)) (cc)
    ]

pub returns-after-loop-b : goal.returns-after-loop-b
returns-after-loop-b c =
    let P : ℕ → Type 0 = λ k. (k ≢ c.args.chosen) × (c.args.self.now.first ≤ k) × IsChallengeMark (branch_mark c.args.self.now k) in
    let C : ℕ → Type 0 = λ k. (c.args.self.now.first ≤ k) × IsChallengeMark (branch_mark c.args.self.now k) in
    let e : c.loop-b.b ≡ branch_count c.args.self.now = omega arith in
    let m : C c.args.chosen = subst C c.from.ensures (c.is_challenged.ensures.0 c.if-is_challenged.true) in
    let all : (h : History) → HasHistory c.args.self.now h → AreAllNumbers (Joins h c.args.chosen) c.loop-b.branches.items =
    λ h s.
    all_of P (Joins h c.args.chosen) _ (branch_count c.args.self.now)
    (subst (λ n. ListsBelow P c.loop-b.branches.items n) e c.loop-b.invariant)
    (joins_is c.args.self.now h s c.args.chosen ((challenged_is c.args.self.now h s c.args.chosen).0 (c.requires, m.0, m.1))) in
    record { all = all; value = λ h s. joined_is c.args.self.now h c.args.chosen c.loop-b.branches.items s (all h s) }

pub returns-else-is_challenged : goal.returns-else-is_challenged
returns-else-is_challenged c =
    let C : ℕ → Type 0 = λ k. (c.args.self.now.first ≤ k) × IsChallengeMark (branch_mark c.args.self.now k) in
    let all : (h : History) → HasHistory c.args.self.now h → AreAllNumbers (Joins h c.args.chosen) c.new-branches.result.items =
    λ h s.
    subst (λ xs. AreAllNumbers (Joins h c.args.chosen) xs) (sym c.new-branches.ensures)
    (none_of (Joins h c.args.chosen) (λ k w.
    let m = (challenged_is c.args.self.now h s c.args.chosen).1 w.0 in
    let t = c.is_challenged.ensures.1 (subst C (sym c.from.ensures) (m.1, m.2)) in absurd (cc))) in
    record { all = all; value = λ h s. joined_is c.args.self.now h c.args.chosen c.new-branches.result.items s (all h s) }
