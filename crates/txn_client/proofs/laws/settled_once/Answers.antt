use Rattle.txn_client.proofs.Steps.{once}
use Rattle.txn_client.proofs.laws.settled_once.Goals as goal

pub returns : goal.returns
returns c = once
