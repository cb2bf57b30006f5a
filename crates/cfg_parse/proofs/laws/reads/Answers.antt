use Rattle.cfg_parse.proofs.laws.reads.Goals as goal
use Rattle.cfg_parse.proofs.law.Law.{reads}

pub returns : goal.returns
returns c = reads
