use Rattle.std.proofs.Common.{◌≡◌, ◌<◌, arith, ap}
use Rattle.job_queue.specs.declared.hand.JobHand.{JobHand}
use Rattle.job_queue.proofs.Posts.{begins}
use Rattle.job_queue.proofs.jobs.Jobs.new.Goals as goal

pub returns-clause-own : goal.returns-clause-own
returns-clause-own c =
    let parts = ap (λ (v : JobHand). v.parts) c.named_about-pass.ensures.1 in
    (c.named_about-pass.ensures.0, (omega arith))
