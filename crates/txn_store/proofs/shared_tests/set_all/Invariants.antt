use Rattle.turn_table.specs.Tables.{IsPassOf}
use Rattle.turn_table.specs.Passes.{HoldsNone, GoesOn}
use Rattle.txn_store.proofs.shared_tests.set_all.Given as goal

abbrev pub invariant-loop-slot : goal.invariant-loop-slot
invariant-loop-slot g l = record {
  own : IsPassOf l.wheel l.pass;
  free : HoldsNone l.pass;
  on : GoesOn l.initial.pass l.pass;
}
