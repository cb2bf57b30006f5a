use Rattle.std.proofs.Common.{◌≡◌, ℕ, ◌+◌, ◌<◌, List, Some, None, min, length, set, ap, sym, ◌∙◌, subst, arith}
use Rattle.std.specs.List.{slice_get}
use Rattle.std.specs.Option.{option_map_or}
use Rattle.std.proofs.lemmas.Option.{slice_get-get_or}
use Rattle.slot_lists.specs.Lists.{Listed}
use Rattle.txn_store.specs.declared.index.IndexPlace.{IndexPlace}
use Rattle.txn_store.specs.Places.{Places, EachKeyIsOnce, freed, after_free}
use Rattle.txn_store.specs.Hashed.{IsIndex}
use Rattle.txn_store.proofs.Runs.{once_freed}
use Rattle.txn_store.proofs.Indexed.{place, after_freed}
use Rattle.txn_store.proofs.index.Index.free.Goals as goal

-- the place that is set is the freed one
is_after : (s now : Places) (slot g : ℕ) (p : IndexPlace) → s ≡ now → slice_get s slot ≡ Some p → place g None ≡ freed p → set s slot (place g None) ≡ after_free now slot
is_after s now slot g p e at is = subst (λ (x : Places). set s slot (place g None) ≡ after_free x slot) e
    (subst (λ o. set s slot (place g None) ≡ option_map_or (λ (x : IndexPlace). set s slot (freed x)) o s) (sym at) (ap (λ (x : IndexPlace). set s slot x) is))

once_after : (s : Places) (slot g : ℕ) (p : IndexPlace) → EachKeyIsOnce s → place g None ≡ freed p → EachKeyIsOnce (set s slot (place g None))
once_after s slot g p once is = subst (λ (x : IndexPlace). EachKeyIsOnce (set s slot x)) (sym is) (once_freed s slot (Some p) once)

pub returns-clause-after : goal.returns-clause-after
returns-clause-after c =
    let s = c.self.inside.places.items in let p = c.index_mut-place.result.now in let v = ap length c.self.view_is in
    let l : c.args.slot < length s = let r = c.requires in omega arith in
    is_after s c.args.self.now c.args.slot c.saturating_add-place.result p c.self.view_is
    (slice_get-get_or s c.args.slot p l ∙ ap (λ (x : IndexPlace). Some x) (sym c.index_mut-place.ensures.value))
    (ap (λ (x : ℕ). place x None) c.saturating_add-place.ensures)

pub returns-clause-once : goal.returns-clause-once
returns-clause-once c = once_after c.self.inside.places.items c.args.slot c.saturating_add-place.result c.index_mut-place.result.now c.self.invariant.once (ap (λ (x : ℕ). place x None) c.saturating_add-place.ensures)

pub returns-clause-step : goal.returns-clause-step
returns-clause-step c =
    let s = c.self.inside.places.items in let p = c.index_mut-place.result.now in let v = ap length c.self.view_is in
    let l : c.args.slot < length s = let r = c.requires in omega arith in (
      c.requires,
      is_after s c.args.self.now c.args.slot c.saturating_add-place.result p c.self.view_is
          (slice_get-get_or s c.args.slot p l ∙ ap (λ (x : IndexPlace). Some x) (sym c.index_mut-place.ensures.value))
          (ap (λ (x : ℕ). place x None) c.saturating_add-place.ensures),
    )

pub invariant_of-self : goal.invariant_of-self
invariant_of-self c =
    let s = c.self.inside.places.items in let v = ap length c.self.view_is in
    let l : c.args.slot < length s = let r = c.requires in omega arith in
    subst (λ (x : Listed). IsIndex (set s c.args.slot (place c.saturating_add-place.result None)) c.self.inside.state x c.add.new.self) (sym c.take_out.ensures)
    (after_freed s c.self.inside.state c.self.inside.lists c.self.inside.free c.self.invariant c.args.slot c.saturating_add-place.result l c.add.new.self c.add.ensures.room
    (once_after s c.args.slot c.saturating_add-place.result c.index_mut-place.result.now c.self.invariant.once (ap (λ (x : ℕ). place x None) c.saturating_add-place.ensures)) c.add.ensures.has)
