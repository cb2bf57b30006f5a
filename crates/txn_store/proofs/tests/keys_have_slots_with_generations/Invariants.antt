use Rattle.std.proofs.Common.{◌≡◌, length}
use Rattle.txn_store.proofs.tests.keys_have_slots_with_generations.Given as goal

abbrev pub invariant-loop-call : goal.invariant-loop-call
invariant-loop-call g l = length l.index ≡ 3
