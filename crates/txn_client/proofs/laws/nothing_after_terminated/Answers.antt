use Rattle.txn_client.proofs.Steps.{terminated}
use Rattle.txn_client.proofs.laws.nothing_after_terminated.Goals as goal

pub returns : goal.returns
returns c = λ invite later end before client run client_over. (terminated invite later end before client run client_over).0
