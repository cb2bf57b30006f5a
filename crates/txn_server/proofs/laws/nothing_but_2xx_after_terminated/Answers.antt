use Rattle.txn_server.proofs.Steps.{terminated}
use Rattle.txn_server.proofs.laws.nothing_but_2xx_after_terminated.Goals as goal

pub returns : goal.returns
returns c = λ invite later end before server run server_over. (terminated invite later end before server run server_over).0
