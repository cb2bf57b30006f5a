use Rattle.std.proofs.Common.{false, refl}
use Rattle.txn_dialogue.specs.Dialogue.{dialogue}
use Rattle.txn_dialogue.specs.Ending.{Aborted}
use Rattle.txn_dialogue.specs.Loose.{LooseAborted, loose_dialogue}
use Rattle.txn_dialogue.specs.Shortage.{is_aborted, is_loosely_aborted}
use Rattle.txn_dialogue.proofs.Whole.{step_whole, whole_short, told_short}
use Rattle.txn_dialogue.proofs.Loosely.{loose_short}
use Rattle.txn_dialogue.proofs.laws.only_shortage_of_memory_aborts.Goals as goal

pub returns-clause-step : goal.returns-clause-step
returns-clause-step c = λ p seen generation what now. whole_short seen (dialogue p seen generation what now) (step_whole p seen generation what now)

pub returns-clause-items : goal.returns-clause-items
returns-clause-items c = λ p seen generation what now items slot comes.
    told_short is_aborted (dialogue p seen generation what now) false (whole_short seen (dialogue p seen generation what now) (step_whole p seen generation what now)) items (Aborted slot) comes refl

pub returns-clause-loose : goal.returns-clause-loose
returns-clause-loose c = loose_short

pub returns-clause-loose_items : goal.returns-clause-loose_items
returns-clause-loose_items c = λ p source handling items comes.
    told_short is_loosely_aborted (loose_dialogue p source handling) false (loose_short p source handling) items LooseAborted comes refl
