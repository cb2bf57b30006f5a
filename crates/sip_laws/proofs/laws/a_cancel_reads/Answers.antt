use Rattle.sip_laws.proofs.Hops.{cancel_reads}
use Rattle.sip_laws.proofs.laws.a_cancel_reads.Goals as goal

pub returns : goal.returns
returns c = cancel_reads
