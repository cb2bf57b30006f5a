use Rattle.std.proofs.Common.{◌≡◌, ap, sym, ◌∙◌, rules}
use Rattle.std.specs.Prelude.{filter}
use Rattle.std.proofs.lemmas.Map.Made.{filter_same_pairs}
use Rattle.ht_core.specs.Tables.{is_live, live}
use Rattle.ht_core.proofs.Items.{len-items_of}
use Rattle.ht_core.proofs.Changes.{kept-room, items_of-live}
use Rattle.ht_core.proofs.held.Held.keep_live.Goals as goal

pub requeue-requires : goal.requeue-requires
requeue-requires c = kept-room (λ e. is_live c.args.clock e.1) c.self.inside.items.entries c.retain.new.self.entries c.self.inside.dues c.self.invariant
    (filter_same_pairs _ (λ e. is_live c.args.clock e.1) _ (λ k v b w f' t. search rules) _ _ c.retain.ensures.filtered) c.retain.ensures.bound

pub returns-clause-live : goal.returns-clause-live
returns-clause-live c =
    items_of-live c.args.clock c.self.inside.items.entries c.retain.new.self.entries c.len-len.ensures.unique
    (filter_same_pairs _ (λ e. is_live c.args.clock e.1) _ (λ k v b w f' t. search rules) _ _ c.retain.ensures.filtered)
    ∙ ap (live c.args.clock) c.self.view_is

pub returns-clause-len : goal.returns-clause-len
returns-clause-len c = c.len.ensures.len ∙ sym (len-items_of _ c.len.ensures.unique)
