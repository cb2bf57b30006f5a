use Rattle.std.proofs.Common.{length}
use Rattle.txn_state.proofs.ending.+are_over.Given as goal

-- proposed from what the function passes where it calls itself
abbrev pub decreases-are_over : goal.decreases-are_over
decreases-are_over l = length l.branches.now
