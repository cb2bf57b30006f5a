use Rattle.txn_dialogue.specs.Dialogue.{dialogue}
use Rattle.txn_dialogue.proofs.Whole.{step_whole, whole_in_order}
use Rattle.txn_dialogue.proofs.laws.the_end_of_a_step_is_in_order.Goals as goal

pub returns : goal.returns
returns c = λ p seen generation what now. whole_in_order seen (dialogue p seen generation what now) (step_whole p seen generation what now)
