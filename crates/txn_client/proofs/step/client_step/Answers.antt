-- Each event makes what its row makes.
use Rattle.txn_client.proofs.Table.{makes_at}
use Rattle.txn_client.proofs.step.client_step.Goals as goal

pub returns-in-Start : goal.returns-in-Start
returns-in-Start c = makes_at _ _ _ _ _ _ c.in-Start.is c.started.ensures

pub returns-in-Provisional : goal.returns-in-Provisional
returns-in-Provisional c = makes_at _ _ _ _ _ _ c.in-Provisional.is (c.got_provisional.ensures c.args.now)

pub returns-in-Success : goal.returns-in-Success
returns-in-Success c = makes_at _ _ _ _ _ _ c.in-Success.is c.got_success.ensures

pub returns-in-Failure : goal.returns-in-Failure
returns-in-Failure c = makes_at _ _ _ _ _ _ c.in-Failure.is c.got_failure.ensures

pub returns-in-Timer : goal.returns-in-Timer
returns-in-Timer c = makes_at _ _ _ _ _ _ c.in-Timer.is c.fired.ensures
