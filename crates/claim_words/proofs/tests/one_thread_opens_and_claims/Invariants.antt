use Rattle.std.proofs.Common.{◌≡◌, length}
use Rattle.claim_words.proofs.tests.one_thread_opens_and_claims.Given as goal

abbrev pub invariant-loop-call : goal.invariant-loop-call
invariant-loop-call g l = length l.claims ≡ 2
