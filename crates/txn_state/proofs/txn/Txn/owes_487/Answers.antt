use Rattle.std.proofs.Common.{◌∙◌, ap, not, Bool}
use Rattle.std.specs.Prelude.{◌&&◌}
use Rattle.txn_dialogue.specs.Sends.{has_final}
use Rattle.txn_state.specs.Kept.{state_shown}
use Rattle.txn_state.proofs.txn.Txn.owes_487.Goals as goal

pub returns : goal.returns
returns c = λ request h context.
    let p = c.args.self.now.progress in
    c.is_487_owed.ensures
    ∙ ap (λ (b : Bool). p.is_cancelled && not b && c.is_none_pending.result && not p.is_owed) (c.has_final.ensures request h)
    ∙ ap (λ (b : Bool). p.is_cancelled && not (has_final (state_shown request h c.args.self.now)) && b && not p.is_owed) (c.is_none_pending.ensures h context)
