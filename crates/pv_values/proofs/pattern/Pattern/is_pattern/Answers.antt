use Rattle.std.proofs.Common.{sym, true≢false}
use Rattle.pv_values.proofs.PatternLemmas.{none_of_bytes}
use Rattle.pv_values.proofs.PatternTexts.{read_is_pattern, refused_is_none}
use Rattle.pv_values.proofs.pattern.Pattern.is_pattern.Goals as goal

pub returns-in_default : goal.returns-in_default
returns-in_default c = sym (none_of_bytes _ c.in_default.ensures.cases.0)

pub returns-in-Ok-parse : goal.returns-in-Ok-parse
returns-in-Ok-parse c =
    let utf8 = c.in-Ok.ensures.cases in
    read_is_pattern _ _ _ _ _ c.byte_config.ensures utf8.0 utf8.1 c.in-Ok-parse.ensures.ok

pub returns : goal.returns
returns c =
    let utf8 = c.in-Ok.ensures.cases in
    refused_is_none _ _ _ _ c.byte_config.ensures utf8.0 (λ e. let same = rw e at c.if-eq.ensures in true≢false (sym same)) c.in-Err.ensures.err
