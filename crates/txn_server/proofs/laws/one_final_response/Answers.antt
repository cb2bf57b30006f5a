use Rattle.txn_server.proofs.Steps.{sent, says_answered}
use Rattle.txn_server.proofs.laws.one_final_response.Goals as goal

pub returns-clause-sent : goal.returns-clause-sent
returns-clause-sent c = sent

pub returns-clause-answered : goal.returns-clause-answered
returns-clause-answered c = says_answered
