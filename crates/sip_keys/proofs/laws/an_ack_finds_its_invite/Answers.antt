use Rattle.sip_keys.proofs.Senders.{same_key}
use Rattle.sip_keys.proofs.laws.an_ack_finds_its_invite.Goals as goal

pub returns : goal.returns
returns c = same_key
