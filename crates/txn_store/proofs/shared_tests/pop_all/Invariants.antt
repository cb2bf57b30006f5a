use Rattle.turn_table.specs.Tables.{IsPassOf}
use Rattle.turn_table.specs.Passes.{HoldsNone, GoesOn}
use Rattle.txn_store.proofs.shared_tests.pop_all.Given as goal

abbrev pub invariant-loop : goal.invariant-loop
invariant-loop g l = record {
  own : IsPassOf l.wheel l.pass;
  free : HoldsNone l.pass;
  on : GoesOn l.initial.pass l.pass;
}
