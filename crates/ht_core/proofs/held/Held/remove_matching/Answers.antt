use Rattle.std.proofs.Common.{◌≡◌, not, refl, rules, ap, ◌∙◌}
use Rattle.std.specs.Prelude.{filter}
use Rattle.std.specs.FinMap as map
use Rattle.std.proofs.lemmas.Map.Entries.{filter_from_retain_pairs}
use Rattle.ht_core.specs.Tables.{Items, is_found_by}
use Rattle.ht_core.proofs.Changes.{kept-room, items_of-matching}
use Rattle.ht_core.proofs.held.Held.remove_matching.Goals as goal

pub requeue-requires : goal.requeue-requires
requeue-requires c =
    let kept : c.retain.new.self.entries ≡ filter (λ e. not (is_found_by c.args.matcher e.0)) c.self.inside.items.entries =
    filter_from_retain_pairs _ (λ f. f.0.now ≡ c.args.matcher) (λ e. not (is_found_by c.args.matcher e.0)) (λ g k v b w g' i t.
    let h : (b ≡ not (is_found_by g.0.now k)) × (w ≡ v) × (g'.0.now ≡ g.0.now) = search rules in
    (h.0 ∙ ap (λ m. not (is_found_by m k)) i, h.1, h.2 ∙ i)) _ _ _ refl c.retain.ensures.filtered in
    kept-room (λ e. not (is_found_by c.args.matcher e.0)) c.self.inside.items.entries c.retain.new.self.entries c.self.inside.dues c.self.invariant kept c.retain.ensures.bound

pub returns : goal.returns
returns c =
    let kept : c.retain.new.self.entries ≡ filter (λ e. not (is_found_by c.args.matcher e.0)) c.self.inside.items.entries =
    filter_from_retain_pairs _ (λ f. f.0.now ≡ c.args.matcher) (λ e. not (is_found_by c.args.matcher e.0)) (λ g k v b w g' i t.
    let h : (b ≡ not (is_found_by g.0.now k)) × (w ≡ v) × (g'.0.now ≡ g.0.now) = search rules in
    (h.0 ∙ ap (λ m. not (is_found_by m k)) i, h.1, h.2 ∙ i)) _ _ _ refl c.retain.ensures.filtered in
    items_of-matching (λ key. not (is_found_by c.args.matcher key)) c.self.inside.items.entries c.retain.new.self.entries kept
    ∙ ap (λ (m : Items). map.retain_keys m (λ key. not (is_found_by c.args.matcher key))) c.self.view_is
