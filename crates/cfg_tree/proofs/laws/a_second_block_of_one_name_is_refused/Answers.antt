use Rattle.std.proofs.Common.{refl}
use Rattle.cfg_tree.specs.Checks.{refusals_of, bodies_of}
use Rattle.cfg_tree.proofs.laws.a_second_block_of_one_name_is_refused.Goals as goal

pub returns : goal.returns
unfolding refusals_of bodies_of
returns c = refl
