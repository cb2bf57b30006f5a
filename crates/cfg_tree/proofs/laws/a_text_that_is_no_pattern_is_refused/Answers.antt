use Rattle.std.proofs.Common.{◌≡◌, refl, false, codes}
use Rattle.cfg_tree.specs.declared.raw.RawExpr.TheFolds.{fold-roll-RawExpr}
use Rattle.cfg_tree.specs.declared.raw.RawStmt.TheFolds.{fold-roll-RawStmt}
use Rattle.cfg_tree.specs.Checks.{refusals_of, bodies_of}
use Rattle.pv_values.specs.Matching.{is_pattern, pattern_in}
use Rattle.regex.proofs.OnLiterals.{regex_on_literals}
use Rattle.cfg_tree.proofs.laws.a_text_that_is_no_pattern_is_refused.Goals as goal

no_bracket : is_pattern (codes "(") ≡ false
unfolding pattern_in regex_on_literals
no_bracket = refl

pub returns : goal.returns
unfolding refusals_of bodies_of
returns c = rw (fold-roll-RawStmt, fold-roll-RawExpr, fold-roll-RawExpr, fold-roll-RawStmt, no_bracket) refl
