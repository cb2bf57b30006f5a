use Rattle.sip_msg.proofs.Lies.{lies, complete}
use Rattle.sip_msg.proofs.laws.a_message_lies_in_its_datagram.Goals as goal

pub returns-clause-lies : goal.returns-clause-lies
returns-clause-lies c = lies

pub returns-clause-complete : goal.returns-clause-complete
returns-clause-complete c = complete
