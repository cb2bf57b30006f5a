use Rattle.std.proofs.Common.{◌≡◌, ℕ, ◌<◌, List, Option, Some, None, length, set, get_or, ap, sym, ◌∙◌, subst, arith}
use Rattle.std.specs.List.{slice_get}
use Rattle.std.proofs.lemmas.List.{get_or_default}
use Rattle.std.proofs.lemmas.Option.{slice_get_within}
use Rattle.slot_lists.specs.Lists.{Listed, IsLastBelow, AreLists}
use Rattle.slot_lists.proofs.Links.{put_after, put_first}
use Rattle.slot_lists.proofs.lists.Lists.put_in.Goals as goal

pub invariant_of-self : goal.invariant_of-self
invariant_of-self c =
    let v = ap (λ (l : Listed). l.places) c.self.view_is in let m = ap (λ (l : Listed). l.lists) c.self.view_is in
    let p = c.self.inside.places.items in let f = c.self.inside.first.items in let n = c.self.inside.next.items in
    let s = c.args.slot in let k = c.args.list in let w = c.index.result.now in
    let free : slice_get p s ≡ Some None = ap (λ (x : List (Option ℕ)). slice_get x s) v ∙ c.requires.slot in
    let k_lt : k < length f = let r = c.requires.list in omega arith in
    let is : w ≡ get_or f k None = c.index.ensures ∙ get_or_default f k w None k_lt in
    let below : IsLastBelow p k s None = subst (λ (x : List (Option ℕ)). IsLastBelow x k s None) (sym v) c.in_default.ensures in
    subst (λ (x : Option ℕ). AreLists (set p s (Some k)) (set f k (Some s)) (set n s x)) (sym is) (put_first p f n c.self.invariant s k k_lt free below)

pub index-requires-2 : goal.index-requires-2
index-requires-2 c =
    let v = ap (λ (l : Listed). l.places) c.self.view_is in let p = c.self.inside.places.items in
    let below : IsLastBelow p c.args.list c.args.slot (Some c.in-Some.before) = subst (λ (x : List (Option ℕ)). IsLastBelow x c.args.list c.args.slot (Some c.in-Some.before)) (sym v) c.in-Some.ensures in
    let l = slice_get_within p c.in-Some.before (Some c.args.list) below.0 in let n = c.self.invariant.nexts in omega arith

pub index_mut-requires-2 : goal.index_mut-requires-2
index_mut-requires-2 c =
    let v = ap (λ (l : Listed). l.places) c.self.view_is in let p = c.self.inside.places.items in
    let free : slice_get p c.args.slot ≡ Some None = ap (λ (x : List (Option ℕ)). slice_get x c.args.slot) v ∙ c.requires.slot in
    let l = slice_get_within p c.args.slot None free in let n = c.self.invariant.nexts in omega arith

pub index_mut-requires-3 : goal.index_mut-requires-3
index_mut-requires-3 c =
    let v = ap (λ (l : Listed). l.places) c.self.view_is in let p = c.self.inside.places.items in
    let below : IsLastBelow p c.args.list c.args.slot (Some c.in-Some.before) = subst (λ (x : List (Option ℕ)). IsLastBelow x c.args.list c.args.slot (Some c.in-Some.before)) (sym v) c.in-Some.ensures in
    let l = slice_get_within p c.in-Some.before (Some c.args.list) below.0 in let n = c.self.invariant.nexts in omega arith

pub index_mut-requires-4 : goal.index_mut-requires-4
index_mut-requires-4 c =
    let v = ap (λ (l : Listed). l.places) c.self.view_is in let p = c.self.inside.places.items in
    let free : slice_get p c.args.slot ≡ Some None = ap (λ (x : List (Option ℕ)). slice_get x c.args.slot) v ∙ c.requires.slot in
    let l = slice_get_within p c.args.slot None free in omega arith

pub invariant_of-self-2 : goal.invariant_of-self-2
invariant_of-self-2 c =
    let v = ap (λ (l : Listed). l.places) c.self.view_is in let m = ap (λ (l : Listed). l.lists) c.self.view_is in
    let p = c.self.inside.places.items in let f = c.self.inside.first.items in let n = c.self.inside.next.items in
    let s = c.args.slot in let k = c.args.list in let b = c.in-Some.before in let w = c.index-2.result.now in
    let free : slice_get p s ≡ Some None = ap (λ (x : List (Option ℕ)). slice_get x s) v ∙ c.requires.slot in
    let k_lt : k < length f = let r = c.requires.list in omega arith in
    let below : IsLastBelow p k s (Some b) = subst (λ (x : List (Option ℕ)). IsLastBelow x k s (Some b)) (sym v) c.in-Some.ensures in
    let l = slice_get_within p b (Some k) below.0 in let ns = c.self.invariant.nexts in
    let is : w ≡ get_or n b None = c.index-2.ensures ∙ get_or_default n b w None (omega arith) in
    subst (λ (x : Option ℕ). AreLists (set p s (Some k)) f (set (set n s x) b (Some s))) (sym is) (put_after p f n c.self.invariant s k k_lt free b below)
