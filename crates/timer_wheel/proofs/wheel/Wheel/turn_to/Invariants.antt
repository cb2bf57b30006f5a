use Rattle.std.proofs.Common.{◌≡◌}
use Rattle.timer_wheel.proofs.Placed.{IsTurning, still_in}
use Rattle.timer_wheel.proofs.wheel.Wheel.turn_to.Given as goal

abbrev pub invariant-loop-slot : goal.invariant-loop-slot
invariant-loop-slot l = record {
  turning : IsTurning l.self-inside.timers.items l.self-inside.lists l.self-inside.last l.now l.list l.self-inside.known;
  same_timers : l.self-inside.timers.items ≡ l.initial.self-inside.timers.items;
  same_last : l.self-inside.last ≡ l.initial.self-inside.last;
}

abbrev pub decreases-loop-slot : goal.decreases-loop-slot
decreases-loop-slot l = still_in l.list l.self-inside.lists
