use Rattle.sip_laws.proofs.Stateless.{stateless_reads}
use Rattle.sip_laws.proofs.laws.a_stateless_ack_reads.Goals as goal

pub returns : goal.returns
returns c = stateless_reads
