use Rattle.cfg_parse.proofs.laws.derives.Goals as goal
use Rattle.cfg_parse.proofs.law.Law.{derives}

pub returns : goal.returns
returns c = derives
