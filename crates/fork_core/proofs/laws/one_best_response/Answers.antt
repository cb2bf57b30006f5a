use Rattle.fork_core.proofs.Best.{one_best}
use Rattle.fork_core.proofs.laws.one_best_response.Goals as goal

pub returns : goal.returns
returns c = one_best
