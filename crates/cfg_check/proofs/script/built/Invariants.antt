use Rattle.std.proofs.Common.{◌≡◌, take}
use Rattle.cfg_check.proofs.script.built.Given as goal

abbrev pub invariant-loop-text : goal.invariant-loop-text
invariant-loop-text l = l.patterns.items ≡ take l.text-index l.texts
