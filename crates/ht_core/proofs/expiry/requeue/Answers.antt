use Rattle.std.proofs.Common.{arith}
use Rattle.ht_core.proofs.Places.{queues_next, queues_length, due_within}
use Rattle.ht_core.proofs.expiry.requeue.Goals as goal

pub loop-place-preserved : goal.loop-place-preserved
loop-place-preserved c = record {
  queued = queues_next c.args.items.now.entries c.loop-place.dues.places c.queue.new.dues.places c.loop-place.place c.loop-place.invariant.queued c.queue.ensures.queued;
  few = let l = queues_length c.loop-place.dues.places c.queue.new.dues.places c.loop-place.place _ c.queue.ensures.queued in omega (arith, c.loop-place.invariant.few);
  room = λ place moment e. omega (arith, c.loop-place.invariant.room place moment e, c.queue.ensures.kept);
}

pub returns : goal.returns
returns c = record {
  queued = λ place moment e. c.loop-place.invariant.queued place moment (let l = due_within c.args.items.now.entries place moment e in omega (arith, c.loop-place-test.false)) e;
  few = omega arith;
  room = c.loop-place.invariant.room;
}
