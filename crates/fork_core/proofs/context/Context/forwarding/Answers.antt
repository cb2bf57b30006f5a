use Rattle.std.proofs.Common.{◌≡◌, ℕ, ◌<◌, sym, subst}
use Rattle.fork_core.specs.declared.context.BranchMark.TheVariants.{Open}
use Rattle.fork_core.specs.Histories.{branch_mark}
use Rattle.fork_core.proofs.Standing.{open_of_none}
use Rattle.fork_core.proofs.context.Context.forwarding.Goals as goal

pub returns-in_default-4-clause-kept : goal.returns-in_default-4-clause-kept
returns-in_default-4-clause-kept c = λ h s. (
  (λ e. absurd (cc)),
  λ w.
      let C : ℕ → Type 0 = λ k. branch_mark c.args.self.now k ≡ Open in
      let none : C c.args.b = open_of_none c.args.self.now h s c.args.b (subst (λ l. c.args.b < l) s.count c.requires) w.1 in
      let t = c.is_open-open.ensures.1 (subst C (sym c.from.ensures) none) in absurd (cc),
)
