use Rattle.job_queue.specs.Jobs.{home_of}
use Rattle.job_queue.proofs.jobs.Jobs.new.Given as goal

abbrev pub ghosts-named_about : goal.ghosts-named_about
ghosts-named_about a = record { home = home_of a.claims.now a.routes }
