use Rattle.std.proofs.Common.{ap, ◌∙◌}
use Rattle.txn_dialogue.specs.Timers.{if_due}
use Rattle.txn_state.proofs.txn.Txn.timer_at.Goals as goal

pub returns : goal.returns
returns c = λ request h. c.due_by.ensures ∙ ap (if_due c.args.now) (c.first_timer.ensures request h)
