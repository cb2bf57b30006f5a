use Rattle.txn_client.proofs.Steps.{sends_in_calling}
use Rattle.txn_client.proofs.laws.invite_is_sent_only_in_calling.Goals as goal

pub returns : goal.returns
returns c = sends_in_calling
