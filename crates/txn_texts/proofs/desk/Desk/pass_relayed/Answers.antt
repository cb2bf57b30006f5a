use Rattle.std.proofs.Common.{◌∙◌}
use Rattle.txn_texts.proofs.Desks.{no_room, nothing_kept}
use Rattle.txn_texts.proofs.desk.Desk.pass_relayed.Goals as goal

pub returns-in_default-clause-passed : goal.returns-in_default-clause-passed
returns-in_default-clause-passed c = nothing_kept _ (no_room _ _ _ c.in_default.field-0 c.in_default.ensures (c.as_mut_slice.ensures.len ∙ c.args.self.now.has_all_of_passed))
