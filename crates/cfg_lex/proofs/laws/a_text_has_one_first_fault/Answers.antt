use Rattle.cfg_lex.proofs.Walk.{one_fault}
use Rattle.cfg_lex.proofs.laws.a_text_has_one_first_fault.Goals as goal

pub returns : goal.returns
returns c = λ text f g a b. one_fault text f g a b
