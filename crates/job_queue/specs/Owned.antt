-- Of which queue a pass is, and what it knows.
use Rattle.std.specs.Prelude.{◌≡◌, ℕ, ◌<◌, Option}
use Rattle.crossbeam_queue.specs.Passes.{Pass, view, IsPassOf}
use Rattle.job_queue.specs.declared.Job.{Job}
use Rattle.job_queue.specs.declared.hand.JobHome.{JobHome}
use Rattle.job_queue.specs.declared.hand.JobHand.{JobHand}
use Rattle.job_queue.specs.declared.jobs.Jobs.{Jobs}

-- a pass of this queue, which has a part of the right to know the whole
abbrev pub IsJobPassOf : Jobs → Pass Job JobHand → Type 0
IsJobPassOf jobs pass = IsPassOf jobs.queue pass × (0 < (view pass).parts)

-- what it is told: of which claims the jobs are, its parts, and what it has posted and taken
abbrev pub home_in : Pass Job JobHand → Option JobHome
home_in pass = (view pass).home
