use Rattle.std.proofs.Common.{◌∙◌}
use Rattle.pv_values.proofs.PatternLemmas.{pattern_of_regex, none_of_error, none_of_bytes}
use Rattle.pv_values.proofs.pattern.Pattern.new.Goals as goal

pub returns-in-Ok-new-clause-read : goal.returns-in-Ok-new-clause-read
returns-in-Ok-new-clause-read c =
    let told = c.in-Ok-new.ensures in
    let utf8 = c.in-Ok.ensures.cases in
    pattern_of_regex c.in-Ok-new.regex _ (told.source ∙ utf8.0) told.config told.read utf8.1

pub returns-in-Err-Syntax-clause-refused : goal.returns-in-Err-Syntax-clause-refused
returns-in-Err-Syntax-clause-refused c = λ _.
    let told = c.in-Err-Syntax.ensures in
    none_of_error _ _ _ _ c.in-Ok.ensures.cases.0 c.in-Err-Syntax.field-0-is told.refused told.kind

pub returns-in_default-clause-refused : goal.returns-in_default-clause-refused
returns-in_default-clause-refused c = λ _. none_of_bytes _ c.in_default.ensures.cases.0
