use Rattle.host_meaning.proofs.Funds.{called_funded, run_funded}
use Rattle.host_meaning.proofs.laws.a_run_that_relays_holds_two_blocks_for_each_target.Goals as goal

pub returns-clause-row : goal.returns-clause-row
returns-clause-row c = called_funded

pub returns-clause-run : goal.returns-clause-run
returns-clause-run c = run_funded
