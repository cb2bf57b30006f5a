use Rattle.std.proofs.Common.{◌≡◌}
use Rattle.turn_table.proofs.table.Turns.take.Given as goal

abbrev pub invariant-loop : goal.invariant-loop
invariant-loop g l = record {
  table : l.pass.table_id ≡ l.initial.pass.table_id;
  id : l.pass.id ≡ l.initial.pass.id;
  me : l.pass.me ≡ (record l.initial.pass.me.0 { looks = l.pass.me.0.looks }, l.initial.pass.me.1);
}
