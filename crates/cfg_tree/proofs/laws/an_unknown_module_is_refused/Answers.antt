use Rattle.std.proofs.Common.{refl}
use Rattle.cfg_tree.specs.Checks.{refusals_of, bodies_of}
use Rattle.cfg_tree.proofs.laws.an_unknown_module_is_refused.Goals as goal

pub returns : goal.returns
unfolding refusals_of bodies_of
returns c = refl
