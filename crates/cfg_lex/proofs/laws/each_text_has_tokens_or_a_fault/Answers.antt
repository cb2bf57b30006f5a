use Rattle.cfg_lex.proofs.Total.{some_answer}
use Rattle.cfg_lex.proofs.laws.each_text_has_tokens_or_a_fault.Goals as goal

pub returns : goal.returns
returns c = some_answer
