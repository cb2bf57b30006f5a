use Rattle.std.proofs.Common.{◌≡◌, ℕ, List, [], false, take, sym, subst, ◌∙◌}
use Rattle.host_meaning.specs.Run.{is_readable}
use Rattle.txn_dialogue.specs.Sends.{kept_of}
use Rattle.txn_texts.specs.Texts.{parts_from, text_of}
use Rattle.txn_texts.proofs.Desks.{no_room, nothing_kept}
use Rattle.txn_texts.proofs.desk.Desk.is_sendable.Goals as goal

pub returns-in_default-clause-reads : goal.returns-in_default-clause-reads
returns-in_default-clause-reads c =
    subst (λ (l : List ℕ). false ≡ is_readable (text_of (parts_from c.args.sources.now (take c.args.self.now.passed_len l)) c.args.text.now)) c.deref.ensures.value
    (sym (no_room _ _ _ c.in_default.field-0 c.in_default.ensures (c.as_mut_slice.ensures.len ∙ c.args.self.now.has_all)))

pub returns-in_default-clause-text : goal.returns-in_default-clause-text
returns-in_default-clause-text c =
    subst (λ (l : List ℕ). [] ≡ kept_of (text_of (parts_from c.args.sources.now (take c.args.self.now.passed_len l)) c.args.text.now)) c.deref.ensures.value
    (nothing_kept _ (no_room _ _ _ c.in_default.field-0 c.in_default.ensures (c.as_mut_slice.ensures.len ∙ c.args.self.now.has_all)))
