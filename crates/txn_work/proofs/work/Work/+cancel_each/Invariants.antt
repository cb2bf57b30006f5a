use Rattle.std.proofs.Common.{length}
use Rattle.txn_work.proofs.work.Work.+cancel_each.Given as goal

abbrev pub decreases-cancel_each : goal.decreases-cancel_each
decreases-cancel_each l = length l.numbers.now
