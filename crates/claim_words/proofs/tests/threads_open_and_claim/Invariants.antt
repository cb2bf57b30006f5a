use Rattle.claim_words.specs.Owned.{IsOpenerOf, IsClaimPassOf}
use Rattle.claim_words.proofs.tests.threads_open_and_claim.Given as goal

abbrev pub invariant-loop-call : goal.invariant-loop-call
invariant-loop-call g l = record {
  opener : IsOpenerOf l.claims l.opener;
  pass : IsClaimPassOf l.claims l.pass;
}
