use Rattle.std.proofs.Common.{sym, subst}
use Rattle.fork_core.specs.Choices.{AreAllNumbers, IsToCancel}
use Rattle.fork_core.proofs.Decided.{cancelled, cancelled_is}
use Rattle.fork_core.proofs.laws.to_cancel_are_all.Goals as goal

pub returns : goal.returns
returns c = λ h branches. (
  (λ e. subst (AreAllNumbers (IsToCancel h)) (sym e) (cancelled h)),
  cancelled_is h branches,
)
