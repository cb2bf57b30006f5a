use Rattle.job_queue.specs.Owned.{IsJobPassOf}
use Rattle.job_queue.proofs.tests.take_all.Given as goal

abbrev pub invariant-loop-tries : goal.invariant-loop-tries
invariant-loop-tries g l = IsJobPassOf l.jobs l.pass
