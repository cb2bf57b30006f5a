use Rattle.std.proofs.Common.{◌≡◌, ℕ, ◌<◌, ◌≤◌, [], ◌∷◌, Bool, true, false, cond, nat_lt, List, Option, Some, None, refl, sym, ap, subst, ◌∙◌, arith, length, get_or, heap_items, IsPermutation, All}
use Rattle.std.specs.Prelude.{map, ◌==◌, IfSome, IsSome, slice_get, slice_index_or}
use Rattle.std.specs.BinaryHeap.{IsUpperBound}
use Rattle.std.specs.declared.cmp.Reverse.{Reverse}
use Rattle.std.specs.declared.cmp.Ordering.TheVariants.{Less, Equal, Greater}
use Rattle.std.specs.Ordering.{is_lt, nat_cmp, ordering_then}
use Rattle.std.specs.List.{AllByRecursion}
use Rattle.std.proofs.lemmas.Option.{get_or_from_slice_get, slice_get-get_or}
use Rattle.std.proofs.lemmas.Bool.Decides.{nat_tests}
use Rattle.std.proofs.lemmas.List.Sorted.{IsPermutation-map}
use Rattle.std.proofs.lemmas.List.Elements.{All-from_recursion}
use Rattle.ht_core.specs.declared.dues.Due.{Due}
use Rattle.ht_core.specs.Queues.{earliest_first}
use Rattle.ht_core.proofs.dues.Dues.pop.Goals as goal

-- the place that came out is the one that was seen first
same_place : (r : Option (Reverse Due)) (old new : List (Reverse Due)) (x : Reverse Due) → slice_get old 0 ≡ Some x → IsSome r
    → IfSome r (λ y. y ≡ slice_index_or old 0 y) → IfSome r (λ y. IsPermutation old (y ∷ new)) → IsPermutation (map (λ e. e.0) old) (x.0 ∷ map (λ e. e.0) new)
same_place None old new x at some top p = cc
same_place (Some y) old new x at some top p =
    subst (λ (z : Reverse Due). IsPermutation (map (λ e. e.0) old) (z.0 ∷ map (λ e. e.0) new)) (top ∙ get_or_from_slice_get old 0 x y at) (IsPermutation-map (λ e. e.0) old (y ∷ new) p)

later : (a b p q clock : ℕ) → clock < a → is_lt (ordering_then (nat_cmp b a) (nat_cmp q p)) ≡ false → clock < b
later a b p q clock l e = by (nat_lt b a) refl
  where
    by : (t : Bool) → nat_lt b a ≡ t → clock < b
    by true is = let no : true ≡ false = ap (λ t. is_lt (ordering_then (cond t Less (cond (b == a) Equal Greater)) (nat_cmp q p))) (sym is) ∙ e in cc
    by false is = grind (arith, nat_tests)

all_later : (clock : ℕ) (x : Reverse Due) (items : List (Reverse Due)) → clock < x.0.moment → IsUpperBound earliest_first x items → AllByRecursion (λ (d : Due). clock < d.moment) (map (λ e. e.0) items)
all_later clock x [] l h = tt
all_later clock x (y ∷ items) l h = (later x.0.moment y.0.moment x.0.place y.0.place clock l h.0, all_later clock x items l h.1)

pub returns-then-due-clock-clause-none : goal.returns-then-due-clock-clause-none
returns-then-due-clock-clause-none c =
    let h = c.self.inside.heap in
    let e : map (λ e. e.0) (heap_items h) ≡ c.args.self.now.places = ap (λ q. q.places) c.self.view_is in
    subst (All (λ (d : Due). c.args.clock < d.moment)) e (All-from_recursion (λ (d : Due). c.args.clock < d.moment) _
    (all_later c.args.clock c.in_ok-due.field-0.now (heap_items h) c.if-due-clock.true (c.in_ok-due.ensures.greatest c.self.invariant)))

pub returns-clause-popped : goal.returns-clause-popped
returns-clause-popped c =
    let h = c.self.inside.heap in
    let first = c.in_ok-due.field-0.now in
    let some : 0 < length (heap_items h) = c.in_ok-due.ensures.item.3.0 in
    let e : map (λ e. e.0) (heap_items h) ≡ c.args.self.now.places = ap (λ q. q.places) c.self.view_is in
    subst (λ (xs : List Due). IsPermutation xs (first.0 ∷ map (λ e. e.0) (heap_items c.pop.new.self))) e (same_place c.pop.result (heap_items h) (heap_items c.pop.new.self) first
    (slice_get-get_or (heap_items h) 0 first some ∙ ap Some (sym c.in_ok-due.ensures.lookup)) (c.pop.ensures.variant.1 (c.in_ok-due.ensures.variant.0 refl)) c.pop.ensures.top c.pop.ensures.permutation)
