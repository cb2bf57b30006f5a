use Rattle.std.proofs.Common.{◌-◌, length, List}
use Rattle.sip_words.specs.declared.params.Param.{Param}
use Rattle.sip_words.proofs.ParamTurns.{Seen}
use Rattle.sip_words.proofs.params.params_at.Given as goal

abbrev pub invariant-loop-semicolon : goal.invariant-loop-semicolon
invariant-loop-semicolon l = (ps : List Param) × Seen l.surroundings l.text l.from l.found ps

abbrev pub decreases-loop-semicolon : goal.decreases-loop-semicolon
decreases-loop-semicolon l = length l.text - l.found.end
