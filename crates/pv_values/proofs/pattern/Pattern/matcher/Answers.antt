use Rattle.std.proofs.Common.{◌∙◌, ap, is_some}
use Rattle.std.proofs.Math.Logic.{∥∥₁_map}
use Rattle.regex_hir.specs.Find.{find}
use Rattle.pv_values.proofs.PatternLemmas.{match_of_regex}
use Rattle.pv_values.proofs.pattern.Pattern.matcher.Goals as goal

pub invariant_of-result : goal.invariant_of-result
invariant_of-result c = ∥∥₁_map c.self.invariant (λ h. λ text bytes.
    ap (λ re. is_some (find re text 0)) c.in_ok-matcher.ensures.pattern
    ∙ match_of_regex c.self.inside.regex _ c.self.view_is h.1 h.0 text bytes)
