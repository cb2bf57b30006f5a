use Rattle.host_meaning.proofs.Funds.{called_provisional, run_provisional}
use Rattle.host_meaning.proofs.laws.a_run_responds_provisionally_beside_its_outcome.Goals as goal

pub returns-clause-row : goal.returns-clause-row
returns-clause-row c = called_provisional

pub returns-clause-run : goal.returns-clause-run
returns-clause-run c = run_provisional
