use Rattle.std.proofs.Common.{◌≡◌, sym, true, false, ◌∙◌, ℕ}
use Rattle.std.proofs.lemmas.Bool.{false≢true}
use Rattle.msg_edits.specs.Edited.{has_byte, is_cut}
use Rattle.msg_edits.specs.Causes.{MeetsCut}
use Rattle.msg_edits.proofs.Once.{once_cut}
use Rattle.msg_edits.proofs.list.Edits.cut.Goals as goal

pub invariant_of-self : goal.invariant_of-self
invariant_of-self c =
    let edits = c.self.inside.list.items in
    let kept : (i : ℕ) → has_byte c.args.at i ≡ true → is_cut edits i ≡ false = rw c.as_slice.ensures.value at (c.meets_cut.ensures.no c.if-meets_cut.false) in
    let apart = λ (m : MeetsCut edits c.args.at). false≢true (sym (kept m.0 m.1) ∙ m.2) in
    rw c.push.ensures.items (once_cut edits c.args.at c.self.invariant apart)
