use Rattle.cfg_code.proofs.Closes.{block_closes}
use Rattle.cfg_code.proofs.laws.the_code_of_a_closed_block_is_closed.Goals as goal

pub returns : goal.returns
returns c = block_closes
