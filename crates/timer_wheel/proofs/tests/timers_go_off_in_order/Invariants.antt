use Rattle.std.proofs.Common.{◌≡◌, length}
use Rattle.timer_wheel.proofs.tests.timers_go_off_in_order.Given as goal

abbrev pub invariant-loop-call : goal.invariant-loop-call
invariant-loop-call g l = length l.wheel ≡ 4
