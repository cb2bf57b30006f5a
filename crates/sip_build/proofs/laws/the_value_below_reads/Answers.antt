use Rattle.sip_build.proofs.OnTop.{value_below}
use Rattle.sip_build.proofs.laws.the_value_below_reads.Goals as goal

pub returns : goal.returns
returns c = value_below
