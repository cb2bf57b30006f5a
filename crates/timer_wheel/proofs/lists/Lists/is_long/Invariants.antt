use Rattle.std.proofs.Common.{◌<◌, ◌+◌, length}
use Rattle.timer_wheel.proofs.lists.Lists.is_long.Given as goal

abbrev pub invariant-loop-passed : goal.invariant-loop-passed
invariant-loop-passed l = l.node < length l.self-inside.places.items + 4096
