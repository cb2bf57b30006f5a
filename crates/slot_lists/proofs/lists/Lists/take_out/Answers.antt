use Rattle.std.proofs.Common.{◌≡◌, ℕ, ◌<◌, List, Option, Some, None, length, set, get_or, ap, sym, ◌∙◌, subst, arith}
use Rattle.std.proofs.lemmas.List.{get_or_default}
use Rattle.std.proofs.lemmas.Option.{slice_get-get_or}
use Rattle.slot_lists.specs.Lists.{Listed, IsIn, IsLastBelow, AreLists}
use Rattle.slot_lists.proofs.Links.{take_after, take_first}
use Rattle.slot_lists.proofs.lists.Lists.take_out.Goals as goal

pub invariant_of-self : goal.invariant_of-self
invariant_of-self c =
    let v = ap (λ (l : Listed). l.places) c.self.view_is in let vl = ap length v in let ns = c.self.invariant.nexts in
    let p = c.self.inside.places.items in let f = c.self.inside.first.items in let n = c.self.inside.next.items in
    let s = c.args.slot in let k = c.in-Some.list in let w = c.index-after.result.now in
    let s_lt : s < length p = let r = c.requires in omega arith in
    let here : IsIn p s k = slice_get-get_or p s None s_lt ∙ ap (λ (x : Option ℕ). Some x) (get_or_default p s None c.index.result.now s_lt ∙ (sym c.index.ensures ∙ c.in-Some.is)) in
    let is : w ≡ get_or n s None = c.index-after.ensures ∙ get_or_default n s w None (omega arith) in
    let below : IsLastBelow p k s None = subst (λ (x : List (Option ℕ)). IsLastBelow x k s None) (sym v) c.in_default-before.ensures in
    subst (λ (x : Option ℕ). AreLists (set p s None) (set f k x) n) (sym is) (take_first p f n c.self.invariant s k (c.self.invariant.listed s k here) here below)

pub invariant_of-self-2 : goal.invariant_of-self-2
invariant_of-self-2 c =
    let v = ap (λ (l : Listed). l.places) c.self.view_is in let vl = ap length v in let ns = c.self.invariant.nexts in
    let p = c.self.inside.places.items in let f = c.self.inside.first.items in let n = c.self.inside.next.items in
    let s = c.args.slot in let k = c.in-Some.list in let b = c.in-Some-before.before in let w = c.index-after.result.now in
    let s_lt : s < length p = let r = c.requires in omega arith in
    let here : IsIn p s k = slice_get-get_or p s None s_lt ∙ ap (λ (x : Option ℕ). Some x) (get_or_default p s None c.index.result.now s_lt ∙ (sym c.index.ensures ∙ c.in-Some.is)) in
    let is : w ≡ get_or n s None = c.index-after.ensures ∙ get_or_default n s w None (omega arith) in
    let below : IsLastBelow p k s (Some b) = subst (λ (x : List (Option ℕ)). IsLastBelow x k s (Some b)) (sym v) c.in-Some-before.ensures in
    subst (λ (x : Option ℕ). AreLists (set p s None) f (set n b x)) (sym is) (take_after p f n c.self.invariant s k (c.self.invariant.listed s k here) here b below)
