use Rattle.std.proofs.Common.{◌≡◌, take}
use Rattle.pv_table.proofs.copies.targets_copy.Given as goal

abbrev pub invariant-loop-target : goal.invariant-loop-target
invariant-loop-target l = l.copy ≡ take l.target-index l.targets
