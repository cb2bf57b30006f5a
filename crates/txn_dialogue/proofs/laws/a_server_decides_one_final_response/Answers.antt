use Rattle.std.proofs.Common.{refl}
use Rattle.txn_dialogue.specs.Dialogue.{dialogue}
use Rattle.txn_dialogue.proofs.Whole.{step_whole, whole_serves, history_served}
use Rattle.txn_dialogue.proofs.laws.a_server_decides_one_final_response.Goals as goal

pub returns-clause-response : goal.returns-clause-response
returns-clause-response c = λ code text w. refl

pub returns-clause-step : goal.returns-clause-step
returns-clause-step c = λ p seen generation what now. whole_serves seen (dialogue p seen generation what now) (step_whole p seen generation what now)

pub returns-clause-history : goal.returns-clause-history
returns-clause-history c = history_served
