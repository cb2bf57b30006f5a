use Rattle.fork_core.proofs.GoingOn.{goes_on, is_kept_so}
use Rattle.fork_core.proofs.laws.forwarding_is_decided.Goals as goal

pub returns-clause-now : goal.returns-clause-now
returns-clause-now c = λ h branch code answered. goes_on h branch code answered

pub returns-clause-kept : goal.returns-clause-kept
returns-clause-kept c = λ h branch code answered. is_kept_so h branch code answered
