use Rattle.std.proofs.Common.{◌∙◌, sym}
use Rattle.cfg_settings.proofs.Semicolons.{part_taken, part_refused}
use Rattle.cfg_settings.proofs.table.TableParts.with_parts.Goals as goal

pub returns-in_err-parts : goal.returns-in_err-parts
returns-in_err-parts c =
    let some = sym c.loop-rest-test.ensures in
    let refused = sym c.with_part.ensures ∙ c.in_err-parts.was in
    c.from_residual.ensures ∙ sym (part_refused c.loop-rest.rest.now _ _ c.loop-rest.invariant some c.cut_at.ensures.front refused)

pub loop-rest-preserved : goal.loop-rest-preserved
loop-rest-preserved c =
    let some = sym c.loop-rest-test.ensures in
    let taken = sym c.with_part.ensures ∙ c.in_ok-parts.was in
    part_taken c.loop-rest.rest.now _ _ _ _ c.loop-rest.invariant some c.cut_at.ensures.front c.cut_at.ensures.back taken
