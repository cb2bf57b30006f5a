use Rattle.std.proofs.Common.{◌∙◌, ap, arith}
use Rattle.std.proofs.Math.Bool.{Bool-set}
use Rattle.std.proofs.Math.Logic.{∥∥₁_elim}
use Rattle.pv_values.specs.Matching.{matches_in}
use Rattle.pv_values.proofs.matcher.PatternMatcher.is_match.Goals as goal

pub invariant_of-self : goal.invariant_of-self
invariant_of-self c = rw c.is_match.ensures.same c.self.invariant

pub returns-clause-found : goal.returns-clause-found
returns-clause-found c =
    c.is_match.ensures.found
    ∙ ∥∥₁_elim c.self.invariant (Bool-set _ _) (λ h. h c.args.text.now (λ k. omega (arith, c.type_inv.text k)))
    ∙ ap (λ source. matches_in source c.args.text.now) c.self.view_is
