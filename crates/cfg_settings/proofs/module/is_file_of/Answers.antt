use Rattle.std.proofs.Common.{◌∙◌, ap, sym}
use Rattle.std.specs.Str.{bytes_eq}
use Rattle.cfg_settings.proofs.Endings.{file_ends}
use Rattle.cfg_settings.proofs.module.is_file_of.Goals as goal

pub returns-else-is_empty : goal.returns-else-is_empty
returns-else-is_empty c =
    let found = c.in-Some.ensures.cases in
    let ends = file_ends c.args.text.now c.args.name.now c.in-Some.ending.now found.0 found.1 (sym c.if-is_empty.ensures) in
    c.eq.ensures ∙ ap (bytes_eq c.in-Some.ending.now) c.as_slice.ensures ∙ sym ends
