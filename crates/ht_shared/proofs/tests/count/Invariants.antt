use Rattle.turn_table.specs.Passes.{HoldsNone, GoesOn}
use Rattle.ht_shared.specs.Shared.{IsTablesPass}
use Rattle.ht_shared.proofs.tests.count.Given as goal

abbrev pub invariant-loop-time : goal.invariant-loop-time
invariant-loop-time g l = record {
  own : IsTablesPass l.tables l.pass;
  free : HoldsNone l.pass;
  on : GoesOn l.initial.pass l.pass;
}
