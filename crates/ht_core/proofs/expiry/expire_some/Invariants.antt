use Rattle.std.proofs.Common.{◌≡◌}
use Rattle.ht_core.specs.Tables.{live}
use Rattle.ht_core.specs.Held.{AreQueued, HasRoom, items_of}
use Rattle.ht_core.proofs.expiry.expire_some.Given as goal

abbrev pub invariant-loop : goal.invariant-loop
invariant-loop l = record {
  queued : AreQueued l.items.entries l.dues.places;
  room : HasRoom l.items.entries l.dues;
  same : live l.clock (items_of l.items.entries) ≡ live l.clock (items_of l.initial.items.entries);
}
