use Rattle.std.proofs.Common.{◌≡◌, ◌∙◌, ◌<◌, ◌+◌, arith, ap}
use Rattle.job_queue.specs.declared.hand.JobHand.{JobHand}
use Rattle.job_queue.proofs.Posts.{joins}
use Rattle.job_queue.proofs.jobs.Jobs.join.Goals as goal

pub absorb-requires-clause-rule : goal.absorb-requires-clause-rule
absorb-requires-clause-rule c = joins _ _ _ _ c.requires.own.1 c.requires.other.1

pub returns-clause-own : goal.returns-clause-own
returns-clause-own c =
    let q = c.absorb.ensures.queue in
    let parts = ap (λ (v : JobHand). v.parts) c.absorb.ensures.rule in
    let some = c.requires.own.1 in
    (((q.0 ∙ c.requires.own.0.0, q.2 ∙ c.requires.own.0.1), (omega arith)), q)
