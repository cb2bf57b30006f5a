use Rattle.sip_laws.proofs.Replying.{reply_reads}
use Rattle.sip_laws.proofs.laws.a_response_reads.Goals as goal

pub returns : goal.returns
returns c = reply_reads
