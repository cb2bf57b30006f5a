use Rattle.std.proofs.Common.{refl, sym, ◌∙◌}
use Rattle.msg_edits.specs.Change.{edit_of}
use Rattle.msg_edits.specs.Writing.{edits_of}
use Rattle.msg_edits.proofs.Steps.{cut_more, cut_found}
use Rattle.msg_edits.proofs.changes.Changes.cuts.Goals as goal

pub returns-then-cuts_byte : goal.returns-then-cuts_byte
returns-then-cuts_byte c = sym (cut_found (edits_of c.args.self.now) c.loop-i.i (edit_of c.get.result) c.args.at c.get.ensures (sym c.cuts_byte.ensures ∙ c.if-cuts_byte.true))

pub loop-i-preserved : goal.loop-i-preserved
loop-i-preserved c =
    let more = cut_more (edits_of c.args.self.now) c.loop-i.i (edit_of c.get.result) c.args.at c.get.ensures in
    let not_here = sym c.cuts_byte.ensures ∙ c.if-cuts_byte.false in
    rw (more, c.loop-i.invariant, not_here) refl
