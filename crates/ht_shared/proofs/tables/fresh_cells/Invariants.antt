use Rattle.std.proofs.Common.{◌≡◌, ◌≤◌, length, map, take, vec_len}
use Rattle.std.specs.Vec.{vec_capacity}
use Rattle.ht_core.specs.Tables.{fresh}
use Rattle.ht_core.specs.Shown.{state_of}
use Rattle.ht_shared.proofs.tables.fresh_cells.Given as goal

abbrev pub invariant-loop-k : goal.invariant-loop-k
invariant-loop-k l = record {
  count : vec_len l.cells ≡ l.k;
  room : length l.specs ≤ vec_capacity l.cells;
  tables : map (λ c. state_of c.table.value) l.cells.items ≡ map fresh (take l.k l.specs);
}
