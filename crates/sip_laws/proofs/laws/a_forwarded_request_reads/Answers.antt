use Rattle.sip_laws.proofs.Forwarding.{forwarded_reads}
use Rattle.sip_laws.proofs.laws.a_forwarded_request_reads.Goals as goal

pub returns : goal.returns
returns c = forwarded_reads
