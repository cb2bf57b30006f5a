use Rattle.sip_build.proofs.ReadsUnder.{reads_under}
use Rattle.sip_build.proofs.laws.a_message_reads_under_the_line.Goals as goal

pub returns : goal.returns
returns c = reads_under
