use Rattle.std.proofs.Common.{◌∙◌, sym}
use Rattle.cfg_settings.proofs.Names.{named}
use Rattle.cfg_settings.proofs.name.is_name.Goals as goal

pub returns-then-begins_name : goal.returns-then-begins_name
returns-then-begins_name c =
    c.goes_on_with.ensures ∙ named c.args.text.now c.in-len1-up.len_at_least (sym c.begins_name.ensures ∙ c.if-begins_name.true)
