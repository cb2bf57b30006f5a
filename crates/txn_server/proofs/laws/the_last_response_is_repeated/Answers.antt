use Rattle.txn_server.proofs.Steps.{repeats_in_proceeding, repeats_in_completed}
use Rattle.txn_server.proofs.laws.the_last_response_is_repeated.Goals as goal

pub returns-clause-proceeding : goal.returns-clause-proceeding
returns-clause-proceeding c = repeats_in_proceeding

pub returns-clause-completed : goal.returns-clause-completed
returns-clause-completed c = repeats_in_completed
