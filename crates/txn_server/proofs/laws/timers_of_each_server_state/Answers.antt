use Rattle.txn_server.proofs.Steps.{timers}
use Rattle.txn_server.proofs.laws.timers_of_each_server_state.Goals as goal

pub returns : goal.returns
returns c = timers
