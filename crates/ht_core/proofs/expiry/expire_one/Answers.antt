use Rattle.ht_core.proofs.Places.{all_live, queued_after, room_after, less_work}
use Rattle.ht_core.proofs.expiry.expire_one.Goals as goal

pub returns-in_default-clause-live : goal.returns-in_default-clause-live
returns-in_default-clause-live c = λ _. all_live c.args.clock c.args.items.now.entries c.args.dues.now.places c.requires.queued c.in_default.ensures.none

pub returns-clause-queued : goal.returns-clause-queued
returns-clause-queued c = queued_after c.args.clock c.args.items.now.entries _ c.args.dues.now.places _ _ c.in-Some.due c.in-Some.ensures.popped c.take_out_over.ensures c.queue.ensures.queued c.requires.queued

pub returns-clause-room : goal.returns-clause-room
returns-clause-room c = room_after c.args.clock c.args.items.now.entries _ c.args.dues.now.places _ _ c.in-Some.due c.in-Some.ensures.popped c.take_out_over.ensures c.queue.ensures.queued _ _ _ c.in-Some.ensures.spare c.queue.ensures.kept c.requires.room

pub returns-clause-less : goal.returns-clause-less
returns-clause-less c = λ _. less_work c.args.clock c.args.items.now.entries _ c.args.dues.now.places _ _ c.in-Some.due c.in-Some.ensures.popped c.take_out_over.ensures c.queue.ensures.queued c.in-Some.ensures.has_come
