use Rattle.fork_core.proofs.Decided.{is_best, best_some, best_none}
use Rattle.fork_core.proofs.laws.best_of_is_the_best.Goals as goal

pub returns-clause-some : goal.returns-clause-some
returns-clause-some c = λ h r. (best_some h r, is_best h r)

pub returns-clause-none : goal.returns-clause-none
returns-clause-none c = best_none
