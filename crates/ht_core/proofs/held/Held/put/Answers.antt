use Rattle.std.proofs.Common.{◌≡◌, ◌+◌, ◌≤◌, ◌∙◌, ap, sym, arith, ℕ, Bool, true, false}
use Rattle.std.specs.Prelude.{if◌then◌else◌, is_some}
use Rattle.std.specs.FinMap as map
use Rattle.ht_core.specs.Tables.{Items}
use Rattle.ht_core.proofs.Items.{items_of-insert}
use Rattle.ht_core.proofs.Changes.{Changes, put, was_queued, changed-others, changed-queued, changed-spare, changed-room}
use Rattle.ht_core.proofs.held.Held.put.Goals as goal

one_more : (n m : ℕ) (b : Bool) → n ≡ m + (if b then 0 else 1) → n ≤ m + 1
one_more n m true e = omega arith
one_more n m false e = omega arith

changes : (c : goal.After-due_of) → Changes c.self.inside.items.entries c.insert_full.new.self.entries c.in_ok-place.place c.args.item.due c.self.inside.dues c.make_room.new.dues
changes c = put _ _ c.args.name c.args.item _ _ _ c.self.invariant c.in_ok-place.ensures.entries c.in_ok-place.ensures.index c.make_room.ensures.same c.in_ok-make_room.ensures.ok
    (one_more _ _ (is_some c.in_ok-place.old) c.in_ok-place.ensures.len)

pub queue_if_earlier-requires-clause-others : goal.queue_if_earlier-requires-clause-others
queue_if_earlier-requires-clause-others c = changed-others _ _ _ _ _ _ (changes c)

pub queue_if_earlier-requires-clause-queued : goal.queue_if_earlier-requires-clause-queued
queue_if_earlier-requires-clause-queued c = λ moment e. changed-queued _ _ _ _ _ _ (changes c) _
    (was_queued c.self.inside.items.entries c.args.name c.in_ok-place.place c.in_ok-place.old c.in_ok-place.ensures.index c.in_ok-place.ensures.old) moment (sym c.due_of.ensures ∙ e)

pub queue_if_earlier-requires-clause-spare : goal.queue_if_earlier-requires-clause-spare
queue_if_earlier-requires-clause-spare c = changed-spare _ _ _ _ _ _ (changes c)

pub queue_if_earlier-requires-clause-room : goal.queue_if_earlier-requires-clause-room
queue_if_earlier-requires-clause-room c = changed-room _ _ _ _ _ _ (changes c)

pub returns-clause-ok : goal.returns-clause-ok
returns-clause-ok c = items_of-insert c.self.inside.items.entries c.insert_full.new.self.entries c.args.name c.args.item c.in_ok-place.ensures.updates.0
    ∙ ap (λ (m : Items). map.insert m c.args.name c.args.item) c.self.view_is
