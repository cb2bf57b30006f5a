use Rattle.txn_dialogue.specs.Blocks.{blocks_in}
use Rattle.txn_dialogue.specs.Dialogue.{dialogue}
use Rattle.txn_dialogue.proofs.Whole.{step_whole, whole_balanced, sums}
use Rattle.txn_dialogue.proofs.Loosely.{loose_balanced}
use Rattle.txn_dialogue.proofs.laws.blocks_are_conserved.Goals as goal

pub returns-clause-step : goal.returns-clause-step
returns-clause-step c = λ p seen generation what now. whole_balanced seen (dialogue p seen generation what now) (step_whole p seen generation what now)

pub returns-clause-sums : goal.returns-clause-sums
returns-clause-sums c = λ p seen generation what now items end comes.
    sums (dialogue p seen generation what now) (blocks_in seen) (whole_balanced seen (dialogue p seen generation what now) (step_whole p seen generation what now)) items end comes

pub returns-clause-loose : goal.returns-clause-loose
returns-clause-loose c = loose_balanced
