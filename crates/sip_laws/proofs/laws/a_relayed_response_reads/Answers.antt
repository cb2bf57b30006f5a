use Rattle.sip_laws.proofs.Below.{relayed_reads}
use Rattle.sip_laws.proofs.laws.a_relayed_response_reads.Goals as goal

pub returns : goal.returns
returns c = relayed_reads
