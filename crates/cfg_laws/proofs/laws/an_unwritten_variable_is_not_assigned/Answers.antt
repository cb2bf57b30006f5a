use Rattle.cfg_laws.proofs.Written.{not_written}
use Rattle.cfg_laws.proofs.laws.an_unwritten_variable_is_not_assigned.Goals as goal

pub returns : goal.returns
returns c = not_written
