use Rattle.std.proofs.Common.{◌≡◌, ◌∙◌, sym, true, subst}
use Rattle.fork_core.proofs.Failing.{failed, all_kept, failed_value}
use Rattle.fork_core.proofs.context.Context.has_failed.Goals as goal

pub returns-clause-failed : goal.returns-clause-failed
returns-clause-failed c = λ h s. (
  (λ t. failed c.args.self.now h s (subst (λ b. b ≡ true) c.are_all_kept.ensures t)),
  λ w. subst (λ b. b ≡ true) (sym c.are_all_kept.ensures) (all_kept c.args.self.now h s w),
)

pub returns-clause-value : goal.returns-clause-value
returns-clause-value c = λ h s. c.are_all_kept.ensures ∙ failed_value c.args.self.now h s
