use Rattle.histories.proofs.Lists.{runs_are_folds}
use Rattle.buf_pool.specs.Records.{PoolAnswers, pool_after}
use Rattle.buf_pool.proofs.laws.a_pool_history_is_a_fold.Goals as goal

pub returns : goal.returns
returns c = record { fold = λ s u rs. runs_are_folds PoolAnswers pool_after s u rs }
