use Rattle.std.proofs.Common.{sym, subst}
use Rattle.fork_core.specs.Choices.{AreAllNumbers, Joins}
use Rattle.fork_core.specs.Decisions.{challenges}
use Rattle.fork_core.proofs.Decided.{one_all, joined}
use Rattle.fork_core.proofs.laws.challenges_are_all.Goals as goal

pub returns : goal.returns
returns c = λ h chosen branches known. (
  (λ e. subst (AreAllNumbers (Joins h chosen)) (sym e) (joined h chosen known)),
  λ a. one_all (Joins h chosen) branches (challenges h chosen) a (joined h chosen known),
)
