use Rattle.std.proofs.Common.{◌≡◌, ◌∙◌, ap, sym, subst, Option, Some, None}
use Rattle.std.specs.FinMap as map
use Rattle.ht_core.specs.Tables.{Items}
use Rattle.ht_core.proofs.Items.{items_of-remove}
use Rattle.ht_core.proofs.Changes.{removed-others, removed-spare, removed-room}
use Rattle.ht_core.proofs.held.Held.remove.Goals as goal

pub returns-in_default : goal.returns-in_default
returns-in_default c = items_of-remove c.self.inside.items.entries c.swap_remove_full.new.self.entries c.args.name.now c.swap_remove_full.ensures.updates.0
    ∙ ap (λ (m : Items). map.remove m c.args.name.now) c.self.view_is

pub queue_if_earlier-requires-clause-others : goal.queue_if_earlier-requires-clause-others
queue_if_earlier-requires-clause-others c = removed-others c.self.inside.items.entries c.swap_remove_full.new.self.entries c.args.name.now c.in-Some.place c.self.inside.dues
    c.self.invariant c.swap_remove_full.ensures.entries c.in-Some.ensures.index

pub queue_if_earlier-requires-clause-spare : goal.queue_if_earlier-requires-clause-spare
queue_if_earlier-requires-clause-spare c = removed-spare c.self.inside.items.entries c.swap_remove_full.new.self.entries c.args.name.now c.in-Some.place c.self.inside.dues
    c.self.invariant c.swap_remove_full.ensures.entries c.in-Some.ensures.index

pub queue_if_earlier-requires-clause-room : goal.queue_if_earlier-requires-clause-room
queue_if_earlier-requires-clause-room c = removed-room c.self.inside.items.entries c.swap_remove_full.new.self.entries c.args.name.now c.in-Some.place c.self.inside.dues
    c.self.invariant c.swap_remove_full.ensures.entries c.in-Some.ensures.index

pub returns : goal.returns
returns c = items_of-remove c.self.inside.items.entries c.swap_remove_full.new.self.entries c.args.name.now c.swap_remove_full.ensures.updates.0
    ∙ ap (λ (m : Items). map.remove m c.args.name.now) c.self.view_is
