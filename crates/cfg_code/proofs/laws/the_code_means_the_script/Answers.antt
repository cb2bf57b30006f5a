use Rattle.cfg_code.proofs.Stmts.{begins_right}
use Rattle.cfg_code.proofs.laws.the_code_means_the_script.Goals as goal

pub returns : goal.returns
returns c = λ loaded script stands block env. begins_right loaded script stands block env
