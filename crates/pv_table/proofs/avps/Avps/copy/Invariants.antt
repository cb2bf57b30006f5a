use Rattle.std.proofs.Common.{◌≡◌, take}
use Rattle.pv_table.proofs.avps.Avps.copy.Given as goal

abbrev pub invariant-loop-place : goal.invariant-loop-place
invariant-loop-place l = l.list.items ≡ take l.place l.self
