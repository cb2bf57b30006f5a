use Rattle.std.proofs.Common.{◌≡◌}
use Rattle.ht_core.specs.Tables.{live}
use Rattle.ht_core.specs.Held.{AreQueued, HasRoom, items_of, work}
use Rattle.ht_core.proofs.expiry.expire_below.Given as goal

abbrev pub invariant-loop-items : goal.invariant-loop-items
invariant-loop-items l = record {
  queued : AreQueued l.items.entries l.dues.places;
  room : HasRoom l.items.entries l.dues;
  same : live l.clock (items_of l.items.entries) ≡ live l.clock (items_of l.initial.items.entries);
}

abbrev pub decreases-loop-items : goal.decreases-loop-items
decreases-loop-items l = work l.clock l.items.entries l.dues.places
