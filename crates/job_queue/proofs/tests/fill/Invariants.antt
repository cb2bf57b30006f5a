use Rattle.std.proofs.Common.{ℕ}
use Rattle.job_queue.specs.declared.Job.TheVariants.{Cancel}
use Rattle.job_queue.specs.Jobs.{IsJobOf}
use Rattle.job_queue.specs.Owned.{IsJobPassOf, home_in}
use Rattle.job_queue.proofs.tests.fill.Given as goal

abbrev pub invariant-loop-generation : goal.invariant-loop-generation
invariant-loop-generation g l = record {
  own : IsJobPassOf l.jobs l.pass;
  home : (h : ℕ) → IsJobOf (home_in l.pass) (Cancel 0 h);
}

abbrev pub invariant-loop-number : goal.invariant-loop-number
invariant-loop-number g l = IsJobPassOf l.jobs l.pass
