use Rattle.std.proofs.Common.{◌≡◌, ℕ, ◌^◌, ◌<◌, ◌≤◌, List, Some, None, length, set, refl, ap, sym, ◌∙◌, subst, arith, rules}
use Rattle.std.specs.List.{slice_get}
use Rattle.std.proofs.lemmas.Option.{slice_get_within, get_or_from_slice_get}
use Rattle.server_key.specs.declared.key.Key.{Key}
use Rattle.server_key.specs.Keys.{shown_key}
use Rattle.slot_lists.specs.Lists.{Listed, placed}
use Rattle.slot_lists.specs.Bits.{Has}
use Rattle.txn_store.specs.declared.index.IndexPlace.{IndexPlace}
use Rattle.txn_store.specs.Places.{Places, HoldsKey, IsHeldNowhere, IsFree, NoneIsFree, IsLowestFree, EachKeyIsOnce}
use Rattle.txn_store.specs.Hashed.{list_of, IsIndex}
use Rattle.txn_store.proofs.Runs.{once_new}
use Rattle.txn_store.proofs.Indexed.{place, after_new, in_no_list}
use Rattle.txn_store.proofs.index.Index.claim.Goals as goal

nowhere_in : (s now : Places) (key : Key) → s ≡ now → IsHeldNowhere s key → IsHeldNowhere now key
nowhere_in s now key e h = subst (λ (x : Places). IsHeldNowhere x key) e h

none_free : (s now : Places) (free : List ℕ) → s ≡ now → ((slot : ℕ) → ((generation : ℕ) × IsFree s slot generation) → Has free slot) → ((slot : ℕ) → ¬ Has free slot) → NoneIsFree now
none_free s now free e told none = subst NoneIsFree e (λ slot g f. none slot (told slot (g, f)))

lowest_free : (s now : Places) (free : List ℕ) (slot g : ℕ) (p : IndexPlace) → s ≡ now → IsFree s slot g → p ≡ place g None → ((other : ℕ) → ((generation : ℕ) × IsFree s other generation) → Has free other)
    → ((other : ℕ) → Has free other → slot ≤ other) → IsLowestFree now slot p.generation
lowest_free s now free slot g p e f is told least = subst (λ (x : Places). IsLowestFree x slot p.generation) e (record {
  is_free = subst (λ (x : ℕ). IsFree s slot x) (sym (ap (λ (x : IndexPlace). x.generation) is)) f;
  lowest = λ other h o. least other (told other (h, o));
})

pub returns-in_default-lowest-clause-answers : goal.returns-in_default-lowest-clause-answers
returns-in_default-lowest-clause-answers c = (
  nowhere_in _ _ _ (c.as_slice.ensures.value ∙ c.self.view_is) c.in_default.ensures.held_nowhere,
  none_free c.self.inside.places.items c.args.self.now c.self.inside.free c.self.view_is (λ slot. (c.self.invariant.told slot).1) c.in_default-lowest.ensures.none,
)

pub returns-in_default-lowest-clause-step : goal.returns-in_default-lowest-clause-step
returns-in_default-lowest-clause-step c = (
  (
    nowhere_in _ _ _ (c.as_slice.ensures.value ∙ c.self.view_is) c.in_default.ensures.held_nowhere,
    none_free c.self.inside.places.items c.args.self.now c.self.inside.free c.self.view_is (λ slot. (c.self.invariant.told slot).1) c.in_default-lowest.ensures.none,
  ),
  refl,
)

pub overflow_cast-slot : goal.overflow_cast-slot
overflow_cast-slot c =
    let f = (c.self.invariant.told c.in-Some-lowest.slot).0 c.in-Some-lowest.ensures.has in
    let l = slice_get_within c.self.inside.places.items c.in-Some-lowest.slot (place f.0 None) f.1 in let few = c.self.invariant.few in
    let fits : c.in-Some-lowest.slot < 2 ^ 32 = omega arith in search rules

pub index-requires : goal.index-requires
index-requires c =
    let f = (c.self.invariant.told c.in-Some-lowest.slot).0 c.in-Some-lowest.ensures.has in
    let l = slice_get_within c.self.inside.places.items c.in-Some-lowest.slot (place f.0 None) f.1 in omega arith

pub index_mut-requires : goal.index_mut-requires
index_mut-requires c =
    let f = (c.self.invariant.told c.in-Some-lowest.slot).0 c.in-Some-lowest.ensures.has in
    let l = slice_get_within c.self.inside.places.items c.in-Some-lowest.slot (place f.0 None) f.1 in omega arith

pub put_in-requires-clause-slot : goal.put_in-requires-clause-slot
put_in-requires-clause-slot c =
    let f = (c.self.invariant.told c.in-Some-lowest.slot).0 c.in-Some-lowest.ensures.has in
    in_no_list c.self.inside.places.items c.self.inside.state c.self.inside.lists c.self.inside.free c.self.invariant c.in-Some-lowest.slot f.0 f.1

pub invariant_of-self : goal.invariant_of-self
invariant_of-self c =
    let s = c.self.inside.places.items in let slot = c.in-Some-lowest.slot in let key = c.in_ok-key.key in let lists = c.self.inside.lists in
    let f = (c.self.invariant.told slot).0 c.in-Some-lowest.ensures.has in
    let l = slice_get_within s slot (place f.0 None) f.1 in
    let nowhere : IsHeldNowhere s key = subst (λ (x : Key). IsHeldNowhere s x) (sym c.in_ok-key.ensures) (nowhere_in _ _ _ c.as_slice.ensures.value c.in_default.ensures.held_nowhere) in
    let put : c.put_in.new.self ≡ placed lists slot (Some (list_of c.self.inside.state lists.lists key)) =
    c.put_in.ensures ∙ ap (λ (x : ℕ). placed lists slot (Some x)) (c.list_of-list.ensures.list ∙ ap (λ (x : Key). list_of c.self.inside.state lists.lists x) (sym c.in_ok-key.ensures)) in
    subst (λ (x : Listed). IsIndex (set s slot (place c.index.result.now.generation (Some key))) c.self.inside.state x c.remove.new.self) (sym put)
    (after_new s c.self.inside.state lists c.self.inside.free c.self.invariant slot c.index.result.now.generation l c.remove.new.self c.remove.ensures.room key nowhere c.remove.ensures.has)

pub returns-clause-answers : goal.returns-clause-answers
returns-clause-answers c =
    let s = c.self.inside.places.items in let slot = c.in-Some-lowest.slot in
    let f = (c.self.invariant.told slot).0 c.in-Some-lowest.ensures.has in (
      nowhere_in _ _ _ (c.as_slice.ensures.value ∙ c.self.view_is) c.in_default.ensures.held_nowhere,
      lowest_free s c.args.self.now c.self.inside.free slot f.0 c.index.result.now c.self.view_is f.1
          (c.index.ensures ∙ get_or_from_slice_get s slot (place f.0 None) c.index.result.now f.1)
          (λ other. (c.self.invariant.told other).1) c.in-Some-lowest.ensures.lowest,
    )

pub returns-clause-once : goal.returns-clause-once
returns-clause-once c =
    let s = c.self.inside.places.items in
    let nowhere : IsHeldNowhere s c.in_ok-key.key = subst (λ (x : Key). IsHeldNowhere s x) (sym c.in_ok-key.ensures) (nowhere_in _ _ _ c.as_slice.ensures.value c.in_default.ensures.held_nowhere) in
    once_new s c.in-Some-lowest.slot c.index.result.now.generation c.in_ok-key.key c.self.invariant.once nowhere

pub returns-clause-step : goal.returns-clause-step
returns-clause-step c =
    let s = c.self.inside.places.items in let slot = c.in-Some-lowest.slot in let g = c.index.result.now.generation in
    let f = (c.self.invariant.told slot).0 c.in-Some-lowest.ensures.has in (
      (
        nowhere_in _ _ _ (c.as_slice.ensures.value ∙ c.self.view_is) c.in_default.ensures.held_nowhere,
        lowest_free s c.args.self.now c.self.inside.free slot f.0 c.index.result.now c.self.view_is f.1
            (c.index.ensures ∙ get_or_from_slice_get s slot (place f.0 None) c.index.result.now f.1)
            (λ other. (c.self.invariant.told other).1) c.in-Some-lowest.ensures.lowest,
      ),
      ap (λ (x : Places). set x slot (place g (Some c.in_ok-key.key))) c.self.view_is ∙ ap (λ (x : Key). set c.args.self.now slot (place g (Some x))) c.in_ok-key.ensures,
    )
