use Rattle.std.proofs.Common.{◌≡◌, length}
use Rattle.txn_store.proofs.plain_tests.calls.Given as goal

abbrev pub invariant-loop : goal.invariant-loop
invariant-loop g l = length l.index ≡ 16
