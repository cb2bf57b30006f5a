-- Each event makes what its row makes.
use Rattle.txn_server.proofs.Table.{makes_at, makes_sent}
use Rattle.txn_server.proofs.step.server_step.Goals as goal

pub returns-in-Copy : goal.returns-in-Copy
returns-in-Copy c = makes_at _ _ _ _ _ _ c.in-Copy.is c.copied.ensures

pub returns-in-Ack : goal.returns-in-Ack
returns-in-Ack c = makes_at _ _ _ _ _ _ c.in-Ack.is c.acked.ensures

pub returns-in-Send : goal.returns-in-Send
returns-in-Send c = makes_sent _ _ _ c.in-Send.code _ _ _ c.in-Send.is c.of.ensures c.responded_with.ensures

pub returns-in-Timer : goal.returns-in-Timer
returns-in-Timer c = makes_at _ _ _ _ _ _ c.in-Timer.is c.fired.ensures
