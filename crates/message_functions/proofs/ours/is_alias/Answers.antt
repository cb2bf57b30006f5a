use Rattle.std.proofs.Common.{◌≡◌, true, false, sym, ap, ◌∙◌}
use Rattle.std.specs.Str.{str_eq_ignore_ascii_case}
use Rattle.message_functions.proofs.Drops.{any_here, any_past}
use Rattle.message_functions.proofs.ours.is_alias.Goals as goal

pub returns-then-same_word : goal.returns-then-same_word
returns-then-same_word c =
    let p = str_eq_ignore_ascii_case c.args.host.now in
    let same = ap p (sym c.alias-item.is) ∙ ap p (sym c.bytes.ensures) ∙ sym c.if-same_word.ensures in
    sym (any_here p c.args.aliases.now c.loop-alias.alias-index c.alias-item.result c.loop-alias-test.true same) ∙ c.loop-alias.invariant

pub loop-alias-preserved : goal.loop-alias-preserved
loop-alias-preserved c =
    let p = str_eq_ignore_ascii_case c.args.host.now in
    let other = ap p (sym c.alias-item.is) ∙ ap p (sym c.bytes.ensures) ∙ sym c.if-same_word.ensures in
    sym (any_past p c.args.aliases.now c.loop-alias.alias-index c.alias-item.result c.loop-alias-test.true other) ∙ c.loop-alias.invariant
