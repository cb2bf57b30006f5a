use Rattle.txn_client.proofs.Steps.{ends}
use Rattle.txn_client.proofs.laws.an_answered_client_ends.Goals as goal

pub returns : goal.returns
returns c = ends
