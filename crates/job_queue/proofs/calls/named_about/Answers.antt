use Rattle.job_queue.proofs.Posts.{names}
use Rattle.job_queue.proofs.calls.named_about.Goals as goal

pub another-requires-clause-rule : goal.another-requires-clause-rule
another-requires-clause-rule g c = names _ _ _ c.requires.pass.1
