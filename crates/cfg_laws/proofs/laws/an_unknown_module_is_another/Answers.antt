use Rattle.cfg_laws.proofs.Modules.{other_modules}
use Rattle.cfg_laws.proofs.laws.an_unknown_module_is_another.Goals as goal

pub returns : goal.returns
returns c = λ raw at. other_modules at raw
