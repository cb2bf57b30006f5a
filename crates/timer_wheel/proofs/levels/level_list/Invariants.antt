use Rattle.timer_wheel.proofs.Moments.{ComesTo}
use Rattle.timer_wheel.proofs.levels.level_list.Given as goal

abbrev pub invariant-loop-due : goal.invariant-loop-due
invariant-loop-due l = ComesTo l.initial.last l.initial.due l.last l.due l.level

abbrev pub decreases-loop-due : goal.decreases-loop-due
decreases-loop-due l = l.due
