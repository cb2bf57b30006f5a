use Rattle.std.proofs.Common.{◌≡◌, length}
use Rattle.timer_wheel.proofs.tests.all_go_off.Given as goal

abbrev pub invariant-loop-slot : goal.invariant-loop-slot
invariant-loop-slot g l = (length l.wheel ≡ 100) × (length l.plain ≡ 100)

abbrev pub invariant-loop-left : goal.invariant-loop-left
invariant-loop-left g l = (length l.wheel ≡ 100) × (length l.plain ≡ 100)
