use Rattle.std.proofs.Common.{ap, ◌∙◌}
use Rattle.std.specs.Prelude.{option_map}
use Rattle.txn_dialogue.specs.declared.happening.ArmedTimer.{ArmedTimer}
use Rattle.txn_state.proofs.txn.Txn.due_above.Goals as goal

pub returns : goal.returns
returns c = λ request h. c.due_of.ensures ∙ ap (option_map (λ (t : ArmedTimer). t.due)) (c.first_timer.ensures request h)
