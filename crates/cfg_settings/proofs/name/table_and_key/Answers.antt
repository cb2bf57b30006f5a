use Rattle.std.proofs.Common.{◌∙◌, sym}
use Rattle.cfg_settings.proofs.Names.{cut_here}
use Rattle.cfg_settings.proofs.name.table_and_key.Goals as goal

pub returns-then-stands_at-2 : goal.returns-then-stands_at-2
returns-then-stands_at-2 c =
    let equals = sym c.stands_at.ensures.value ∙ c.if-stands_at.true in
    let greater = sym c.stands_at-then-stands_at.ensures.value ∙ c.if-stands_at-2.true in
    sym (c.loop-at.invariant ∙ cut_here c.args.text.now c.loop-at.at c.loop-at-test.true equals greater)
