use Rattle.std.proofs.Common.{◌≡◌, ℕ, List, true, take, sym, subst, ◌∙◌}
use Rattle.host_meaning.specs.Run.{is_readable}
use Rattle.txn_texts.specs.Texts.{parts_from, text_of}
use Rattle.txn_texts.proofs.Desks.{has_room}
use Rattle.txn_texts.proofs.desk.Desk.write.Goals as goal

pub returns-in-Err-clause-text : goal.returns-in-Err-clause-text
returns-in-Err-clause-text c =
    absurd (has_room _ _ _ c.in-Err.field-0 c.in-Err.ensures (c.as_mut_slice.ensures.len ∙ c.args.self.now.has_all)
    (subst (λ (l : List ℕ). is_readable (text_of (parts_from c.args.sources.now (take c.args.self.now.passed_len l)) c.args.text.now) ≡ true) (sym c.deref.ensures.value) c.requires.sendable))
