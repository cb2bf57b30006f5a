use Rattle.txn_dialogue.specs.Dialogue.{dialogue}
use Rattle.txn_dialogue.proofs.Whole.{step_whole, whole_last}
use Rattle.txn_dialogue.proofs.Loosely.{loose_last}
use Rattle.txn_dialogue.proofs.laws.datagrams_come_last.Goals as goal

pub returns-clause-step : goal.returns-clause-step
returns-clause-step c = λ p seen generation what now. whole_last seen (dialogue p seen generation what now) (step_whole p seen generation what now)

pub returns-clause-loose : goal.returns-clause-loose
returns-clause-loose c = loose_last
