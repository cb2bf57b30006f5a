use Rattle.txn_dialogue.specs.Dialogue.{dialogue}
use Rattle.txn_dialogue.proofs.Whole.{step_whole, whole_orders}
use Rattle.txn_dialogue.proofs.Loosely.{loose_orders}
use Rattle.txn_dialogue.proofs.laws.a_continuation_is_ordered_at_once.Goals as goal

pub returns-clause-step : goal.returns-clause-step
returns-clause-step c = λ p seen generation what now. whole_orders seen (dialogue p seen generation what now) (step_whole p seen generation what now)

pub returns-clause-loose : goal.returns-clause-loose
returns-clause-loose c = loose_orders
