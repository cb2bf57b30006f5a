use Rattle.cfg_lex.proofs.Walk.{not_both}
use Rattle.cfg_lex.proofs.laws.a_text_with_a_fault_has_no_tokens.Goals as goal

pub returns : goal.returns
returns c = λ text ts f a b. not_both text ts f a b
