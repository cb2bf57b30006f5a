use Rattle.txn_server.proofs.Steps.{ends}
use Rattle.txn_server.proofs.laws.an_answered_server_ends.Goals as goal

pub returns : goal.returns
returns c = ends
