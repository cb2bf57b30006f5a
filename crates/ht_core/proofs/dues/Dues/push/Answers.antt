use Rattle.std.proofs.Common.{◌≡◌, ap, subst, ◌∷◌, List, IsPermutation, heap_items, Result, Ok, Err}
use Rattle.std.specs.Prelude.{map, OnOk, IsOk}
use Rattle.std.proofs.lemmas.List.Sorted.{IsPermutation-map}
use Rattle.std.specs.declared.cmp.Reverse.{Reverse}
use Rattle.ht_core.specs.declared.dues.Due.{Due}
use Rattle.ht_core.proofs.dues.Dues.push.Goals as goal

pub returns-clause-queued : goal.returns-clause-queued
returns-clause-queued c =
    let e : map (λ e. e.0) (heap_items c.self.inside.heap) ≡ c.args.self.now.places = ap (λ q. q.places) c.self.view_is in
    let p : IsPermutation (record { 0 = c.args.due } ∷ heap_items c.self.inside.heap) (heap_items c.push.new.self)
    = subst (λ r. OnOk r (IsPermutation (record { 0 = c.args.due } ∷ heap_items c.self.inside.heap) (heap_items c.push.new.self))) c.unwrap.ensures c.push.ensures.permutation in
    subst (λ (xs : List Due). IsPermutation (c.args.due ∷ xs) (map (λ e. e.0) (heap_items c.push.new.self))) e (IsPermutation-map (λ e. e.0) _ _ p)
