use Rattle.cfg_laws.proofs.Unknowns.{unknowns}
use Rattle.cfg_laws.proofs.laws.an_unknown_variable_is_not_known.Goals as goal

pub returns : goal.returns
returns c = unknowns
