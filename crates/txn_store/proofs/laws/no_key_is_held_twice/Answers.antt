use Rattle.txn_store.proofs.Runs.{runs_keep_once}
use Rattle.txn_store.proofs.laws.no_key_is_held_twice.Goals as goal

pub returns-clause-stays : goal.returns-clause-stays
returns-clause-stays c = runs_keep_once
