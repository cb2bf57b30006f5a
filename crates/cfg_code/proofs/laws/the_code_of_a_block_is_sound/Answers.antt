use Rattle.cfg_code.proofs.Shapes.{block_shaped}
use Rattle.cfg_code.proofs.laws.the_code_of_a_block_is_sound.Goals as goal

pub returns : goal.returns
returns c = λ block behind. block_shaped block behind
