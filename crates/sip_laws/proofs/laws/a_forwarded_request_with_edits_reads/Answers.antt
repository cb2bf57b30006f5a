use Rattle.sip_laws.proofs.UnderLine.{edited_reads}
use Rattle.sip_laws.proofs.laws.a_forwarded_request_with_edits_reads.Goals as goal

pub returns : goal.returns
returns c = edited_reads
