use Rattle.cfg_laws.proofs.Blocks.{seconds}
use Rattle.cfg_laws.proofs.laws.a_second_block_has_the_kind_and_name_of_an_earlier_one.Goals as goal

pub returns : goal.returns
returns c = λ raw at. seconds at raw
