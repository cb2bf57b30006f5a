use Rattle.std.proofs.Common.{◌≡◌, ◌∙◌, ◌<◌, ◌-◌, arith, ap}
use Rattle.job_queue.specs.declared.hand.JobHand.{JobHand}
use Rattle.job_queue.proofs.Posts.{splits}
use Rattle.job_queue.proofs.jobs.Jobs.split.Goals as goal

pub another-requires-clause-rule : goal.another-requires-clause-rule
another-requires-clause-rule c = splits _ _ c.requires.own.1

pub returns-clause-own : goal.returns-clause-own
returns-clause-own c =
    let q = c.another.ensures.queue in
    let parts = ap (λ (v : JobHand). v.parts) c.another.ensures.rule.0 in
    let more = c.requires.own.1 in
    (((q.0.0 ∙ c.requires.own.0.0.0, q.0.2 ∙ c.requires.own.0.0.1), (omega arith)), q.0)

pub returns-clause-right : goal.returns-clause-right
returns-clause-right c =
    let parts = ap (λ (v : JobHand). v.parts) c.another.ensures.rule.1 in
    ((c.another.ensures.queue.1, (omega arith)), c.another.ensures.rule.1)
