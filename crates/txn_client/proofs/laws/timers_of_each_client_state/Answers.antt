use Rattle.txn_client.proofs.Steps.{timers}
use Rattle.txn_client.proofs.laws.timers_of_each_client_state.Goals as goal

pub returns : goal.returns
returns c = timers
