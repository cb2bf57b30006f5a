use Rattle.sip_laws.proofs.Hops.{ack_reads}
use Rattle.sip_laws.proofs.laws.an_ack_reads.Goals as goal

pub returns : goal.returns
returns c = ack_reads
