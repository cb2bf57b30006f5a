use Rattle.sip_msg.proofs.Lies.{basis_lies}
use Rattle.sip_msg.proofs.laws.a_basis_lies_in_its_datagram.Goals as goal

pub returns : goal.returns
returns c = basis_lies
