use Rattle.sip_build.proofs.OwnVia.{own_reads}
use Rattle.sip_build.proofs.laws.own_via_reads.Goals as goal

pub returns : goal.returns
returns c = own_reads
