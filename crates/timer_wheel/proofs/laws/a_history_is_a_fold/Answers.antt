use Rattle.histories.proofs.Lists.{runs_are_folds}
use Rattle.timer_wheel.specs.Records.{WheelAnswers, timers_after}
use Rattle.timer_wheel.proofs.Runs.{runs_keep_slots}
use Rattle.timer_wheel.proofs.laws.a_history_is_a_fold.Goals as goal

pub returns-clause-fold : goal.returns-clause-fold
returns-clause-fold c = λ s u rs. runs_are_folds WheelAnswers timers_after s u rs

pub returns-clause-slots : goal.returns-clause-slots
returns-clause-slots c = runs_keep_slots
