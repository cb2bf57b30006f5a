use Rattle.fork_core.proofs.Decided.{failed_is, is_failed}
use Rattle.fork_core.proofs.laws.has_failed_is_failed.Goals as goal

pub returns : goal.returns
returns c = λ h. (failed_is h, is_failed h)
