use Rattle.std.proofs.Common.{◌≡◌, length}
use Rattle.timer_wheel.proofs.tests.all_timers_go_off_in_order.Given as goal

abbrev pub invariant-loop-dues : goal.invariant-loop-dues
invariant-loop-dues g l = (length l.wheel ≡ 100) × (length l.plain ≡ 100)
