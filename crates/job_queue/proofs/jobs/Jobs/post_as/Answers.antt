use Rattle.std.proofs.Common.{◌≡◌, ◌∙◌, ◌<◌, arith}
use Rattle.job_queue.proofs.Posts.{posts, rests, post_keeps}
use Rattle.job_queue.proofs.jobs.Jobs.post_as.Goals as goal

pub push_as-requires-clause-rule : goal.push_as-requires-clause-rule
push_as-requires-clause-rule g c = (posts _ _ _ _ c.requires.own.1 c.requires.job, rests _ _)

pub returns-clause-own : goal.returns-clause-own
returns-clause-own g c =
    let q = c.push_as.ensures.queue in
    let k = post_keeps _ _ _ _ _ c.push_as.ensures.rule in
    let parts = k.0 in
    let some = c.requires.own.1 in
    (((q.0 ∙ c.requires.own.0.0, q.2 ∙ c.requires.own.0.1), (omega arith)), q, k.1)
