use Rattle.cfg_lex.proofs.Walk.{one_list}
use Rattle.cfg_lex.proofs.laws.a_text_has_one_list_of_tokens.Goals as goal

pub returns : goal.returns
returns c = λ text ts us a b. one_list text ts us a b
