use Rattle.cfg_laws.proofs.Patterns.{bad_patterns}
use Rattle.cfg_laws.proofs.laws.a_bad_pattern_is_no_pattern.Goals as goal

pub returns : goal.returns
returns c = bad_patterns
