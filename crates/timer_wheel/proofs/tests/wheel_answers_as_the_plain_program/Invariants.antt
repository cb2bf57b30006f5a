use Rattle.std.proofs.Common.{◌≡◌, length}
use Rattle.timer_wheel.proofs.tests.wheel_answers_as_the_plain_program.Given as goal

abbrev pub invariant-loop-call : goal.invariant-loop-call
invariant-loop-call g l = (length l.wheel ≡ 100) × (length l.plain ≡ 100)
