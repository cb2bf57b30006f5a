use Rattle.turn_table.specs.Tables.{IsPassOf}
use Rattle.turn_table.specs.Passes.{HoldsNone, GoesOn}
use Rattle.turn_table.proofs.tests.work.Given as goal

abbrev pub invariant-loop-round : goal.invariant-loop-round
invariant-loop-round g l = record {
  own : IsPassOf l.turns l.worker.pass;
  free : HoldsNone l.worker.pass;
  on : GoesOn l.initial.worker.pass l.worker.pass;
}
