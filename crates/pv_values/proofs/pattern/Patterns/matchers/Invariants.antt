use Rattle.std.proofs.Common.{◌≡◌, take}
use Rattle.pv_values.proofs.pattern.Patterns.matchers.Given as goal

abbrev pub invariant-loop-pattern : goal.invariant-loop-pattern
invariant-loop-pattern l = l.list.items ≡ take l.pattern-index l.pattern-items
