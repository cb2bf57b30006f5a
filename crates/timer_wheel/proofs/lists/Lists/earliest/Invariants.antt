use Rattle.timer_wheel.proofs.Walks.{HasPassed}
use Rattle.timer_wheel.proofs.lists.Lists.earliest.Given as goal

abbrev pub invariant-loop-passed : goal.invariant-loop-passed
invariant-loop-passed l = HasPassed l.self-inside.places.items l.self-inside.next.items l.self-inside.prev.items l.self-inside.words.items l.timers l.list l.passed l.node l.found
