use Rattle.sip_keys.proofs.Senders.{same_sender}
use Rattle.sip_keys.proofs.laws.one_key_is_of_one_sender.Goals as goal

pub returns : goal.returns
returns c = same_sender
