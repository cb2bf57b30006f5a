use Rattle.txn_client.proofs.Table.{step_after, after_step}
use Rattle.txn_client.proofs.Steps.{one_row}
use Rattle.txn_client.proofs.laws.each_client_event_makes_one_step.Goals as goal

pub returns-clause-one_row : goal.returns-clause-one_row
returns-clause-one_row c = one_row

pub returns-clause-one_step : goal.returns-clause-one_step
returns-clause-one_step c = λ old now event new acts. (step_after old now event new acts, after_step old now event new acts)
