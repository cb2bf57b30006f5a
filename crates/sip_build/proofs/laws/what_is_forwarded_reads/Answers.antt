use Rattle.sip_build.proofs.OnTop.{forwarded_reads}
use Rattle.sip_build.proofs.laws.what_is_forwarded_reads.Goals as goal

pub returns : goal.returns
returns c = forwarded_reads
