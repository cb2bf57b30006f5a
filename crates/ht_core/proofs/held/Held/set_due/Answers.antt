use Rattle.std.proofs.Common.{◌≡◌, ◌∙◌, ap, sym, Some, None}
use Rattle.std.specs.Option.{option_and_then, option_map}
use Rattle.std.specs.FinMap as map
use Rattle.indexmap.specs.IndexMap.{set_value_at}
use Rattle.std.proofs.lemmas.Option.{slice_get_within, slice_get-map, same_Some}
use Rattle.ht_core.specs.declared.item.Item.{Item}
use Rattle.ht_core.specs.Tables.{Items}
use Rattle.ht_core.specs.Held.{due_from_now_on, items_of}
use Rattle.ht_core.proofs.Items.{get-items_of}
use Rattle.ht_core.proofs.Changes.{set_due, changed-others, changed-queued, changed-spare, changed-room, items_of-set_due}
use Rattle.ht_core.proofs.held.Held.set_due.Goals as goal

pub returns-in_default-clause-ok : goal.returns-in_default-clause-ok
returns-in_default-clause-ok c =
    let k = c.args.name.now in
    let none : map.get c.args.self.now k ≡ None = ap (λ (m : Items). map.get m k) (sym c.self.view_is) ∙ get-items_of c.self.inside.items.entries k ∙ sym c.in_default.ensures.value in
    sym (ap (due_from_now_on c.args.self.now k c.args.due) none)

pub queue_if_earlier-requires-clause-others : goal.queue_if_earlier-requires-clause-others
queue_if_earlier-requires-clause-others c = changed-others _ _ _ _ _ _
    (set_due c.self.inside.items.entries _ c.in-Some.place _ _ c.self.invariant (slice_get_within _ _ _ c.in-Some.ensures.entry) c.make_room.ensures.same c.in_ok-make_room.ensures.ok)

pub queue_if_earlier-requires-clause-queued : goal.queue_if_earlier-requires-clause-queued
queue_if_earlier-requires-clause-queued c = changed-queued _ _ _ _ _ _
    (set_due c.self.inside.items.entries (record { value = c.index_mut.result.now.value; due = c.args.due }) c.in-Some.place _ _ c.self.invariant (slice_get_within _ _ _ c.in-Some.ensures.entry)
    c.make_room.ensures.same c.in_ok-make_room.ensures.ok) _ (ap (option_and_then (λ e. e.1.due)) c.in-Some.ensures.entry)

pub queue_if_earlier-requires-clause-spare : goal.queue_if_earlier-requires-clause-spare
queue_if_earlier-requires-clause-spare c = changed-spare _ _ _ _ _ _
    (set_due c.self.inside.items.entries _ c.in-Some.place _ _ c.self.invariant (slice_get_within _ _ _ c.in-Some.ensures.entry) c.make_room.ensures.same c.in_ok-make_room.ensures.ok)

pub queue_if_earlier-requires-clause-room : goal.queue_if_earlier-requires-clause-room
queue_if_earlier-requires-clause-room c = changed-room _ _ _ _ _ _
    (set_due c.self.inside.items.entries _ c.in-Some.place _ _ c.self.invariant (slice_get_within _ _ _ c.in-Some.ensures.entry) c.make_room.ensures.same c.in_ok-make_room.ensures.ok)

pub returns-clause-ok : goal.returns-clause-ok
returns-clause-ok c =
    let same_item : c.index_mut.result.now ≡ c.in-Some.item.now
    = same_Some _ _ (sym c.index_mut.ensures.value ∙ slice_get-map (λ e. e.1) c.self.inside.items.entries c.in-Some.place ∙ ap (option_map (λ e. e.1)) c.in-Some.ensures.entry) in
    let es = c.self.inside.items.entries in
    let k = c.args.name.now in
    ap (λ (item : Item). let now_due : Item = record { value = item.value; due = c.args.due } in items_of (set_value_at es c.in-Some.place now_due)) same_item
    ∙ items_of-set_due c.self.inside.items k _ c.in-Some.item.now c.args.due c.in-Some.place c.len-len.ensures.unique c.in-Some.ensures.entry c.in-Some.ensures.key c.in-Some.ensures.value
    ∙ ap (λ (m : Items). due_from_now_on m k c.args.due (map.get m k)) c.self.view_is
