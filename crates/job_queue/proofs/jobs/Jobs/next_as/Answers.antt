use Rattle.std.proofs.Common.{◌≡◌, ◌∙◌, ◌<◌, arith}
use Rattle.job_queue.proofs.Posts.{takes, rests, over, next_keeps}
use Rattle.job_queue.proofs.jobs.Jobs.next_as.Goals as goal

pub pop_as-requires-clause-rule : goal.pop_as-requires-clause-rule
pop_as-requires-clause-rule g c = (takes _ _ c.requires.own.1, rests _ _)

pub returns-clause-own : goal.returns-clause-own
returns-clause-own g c =
    let q = c.pop_as.ensures.queue in
    let k = next_keeps _ _ _ _ c.pop_as.ensures.rule in
    let parts = k.0 in
    let some = c.requires.own.1 in
    (((q.0 ∙ c.requires.own.0.0, q.2 ∙ c.requires.own.0.1), (omega arith)), q, k.1)
