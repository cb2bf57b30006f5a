use Rattle.std.proofs.Common.{◌≡◌, subst, arith}
use Rattle.fork_core.specs.declared.context.BranchMark.TheVariants.{Open}
use Rattle.fork_core.specs.Responses.{History}
use Rattle.fork_core.specs.Choices.{AreAllNumbers, IsToCancel}
use Rattle.fork_core.specs.Histories.{HasHistory, branch_mark, branch_count}
use Rattle.fork_core.proofs.Numbers.{ListsBelow, push_is, skip_is, all_of}
use Rattle.fork_core.proofs.Decided.{cancelled_is}
use Rattle.fork_core.proofs.Standing.{to_cancel_is}
use Rattle.fork_core.proofs.context.Context.to_cancel.Goals as goal
use Rattle.fork_core.proofs.context.Context.to_cancel.Goals.{then-is_open, else-is_open}

pub loop-b-preserved : goal.loop-b-preserved
loop-b-preserved c =
    elim c.if-is_open.branch [
      | then-is_open w ↦ push_is (λ k. branch_mark c.args.self.now k ≡ Open) c.loop-b.branches.items c.if-is_open.branches.items c.loop-b.b c.loop-b.invariant (c.is_open.ensures.0 w.if-is_open.true) (cc)
      | else-is_open w ↦ skip_is (λ k. branch_mark c.args.self.now k ≡ Open) c.loop-b.branches.items c.if-is_open.branches.items c.loop-b.b c.loop-b.invariant (λ p. let t = c.is_open.ensures.1 p in absurd (cc)) (cc)
    ]

pub returns-after-loop-b : goal.returns-after-loop-b
returns-after-loop-b c =
    let e : c.loop-b.b ≡ branch_count c.args.self.now = omega arith in
    let all : (h : History) → HasHistory c.args.self.now h → AreAllNumbers (IsToCancel h) c.loop-b.branches.items =
    λ h s.
    all_of (λ k. branch_mark c.args.self.now k ≡ Open) (IsToCancel h) _ (branch_count c.args.self.now)
    (subst (λ n. ListsBelow (λ k. branch_mark c.args.self.now k ≡ Open) c.loop-b.branches.items n) e c.loop-b.invariant)
    (to_cancel_is c.args.self.now h s c.if-self.true) in
    record { all = all; value = λ h s. cancelled_is h c.loop-b.branches.items (all h s) }
