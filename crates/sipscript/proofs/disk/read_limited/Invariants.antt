-- No more than the limit was read.
use Rattle.std.proofs.Common.{◌≤◌, vec_len}
use Rattle.sipscript.proofs.disk.read_limited.Given as goal

abbrev pub invariant-loop : goal.invariant-loop
invariant-loop g l = vec_len l.bytes ≤ l.limit
