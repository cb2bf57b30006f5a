use Rattle.std.proofs.Common.{◌≡◌}
use Rattle.claim_words.specs.Owned.{IsOpenerOf}
use Rattle.job_queue.specs.Jobs.{home_of}
use Rattle.job_queue.specs.Owned.{IsJobPassOf, home_in}
use Rattle.job_queue.proofs.tests.meet_next.Given as goal

abbrev pub invariant-loop : goal.invariant-loop
invariant-loop g l = record {
  own : IsJobPassOf l.jobs l.pass;
  home : home_in l.pass ≡ home_of l.claims 1;
  opener : IsOpenerOf l.claims l.opener;
}
