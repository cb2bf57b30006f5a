use Rattle.std.proofs.Common.{◌<◌, IfSome, length}
use Rattle.timer_wheel.proofs.tests.plain.first.Given as goal

abbrev pub invariant-loop-slot : goal.invariant-loop-slot
invariant-loop-slot l = IfSome l.found (λ found. found.0 < length l.timers)
