use Rattle.std.proofs.Common.{◌≡◌, ◌≤◌}
use Rattle.std.specs.Vec.{vec_capacity}
use Rattle.txn_store.specs.Places.{vacant_places_of}
use Rattle.txn_store.proofs.index.vacant_places.Given as goal

abbrev pub invariant-loop-slot : goal.invariant-loop-slot
invariant-loop-slot l = record {
  made : l.places.items ≡ vacant_places_of l._slot l.generation;
  room : l.slots ≤ vec_capacity l.places;
}
