use Rattle.std.proofs.Common.{◌≡◌, ℕ, ◌+◌, length, get_or, arith, ap, sym, ◌∙◌, subst}
use Rattle.std.proofs.lemmas.List.{get_or_default}
use Rattle.timer_wheel.specs.Rings.{IsIn}
use Rattle.timer_wheel.proofs.Walks.{front_slot, front_none}
use Rattle.timer_wheel.proofs.lists.Lists.oldest.Goals as goal

pub returns-then-node-head-clause-none : goal.returns-then-node-head-clause-none
returns-then-node-head-clause-none c =
    let e : c.len.result ≡ length c.self.inside.places.items = omega arith in
    let l = c.self.invariant.1 in let many = l.nexts in
    let n : c.index-node.result.now ≡ get_or c.self.inside.next.items (length c.self.inside.places.items + c.args.list) c.index-node.result.now = rw (← e) c.index-node.ensures in
    let own = sym (n ∙ get_or_default c.self.inside.next.items (length c.self.inside.places.items + c.args.list) c.index-node.result.now 0 (omega arith)) ∙ (c.if-node-head.true ∙ ap (λ x. x + c.args.list) e) in
    subst (λ x. (slot : ℕ) → ¬ IsIn x slot c.args.list) c.self.view_is (front_none _ _ _ _ c.self.invariant.0 l c.args.list c.requires own)

pub returns-else-node-head-clause-is_in : goal.returns-else-node-head-clause-is_in
returns-else-node-head-clause-is_in c =
    let e : c.len.result ≡ length c.self.inside.places.items = omega arith in
    let l = c.self.invariant.1 in let many = l.nexts in
    let n : c.index-node.result.now ≡ get_or c.self.inside.next.items (length c.self.inside.places.items + c.args.list) c.index-node.result.now = rw (← e) c.index-node.ensures in
    let first = n ∙ get_or_default c.self.inside.next.items (length c.self.inside.places.items + c.args.list) c.index-node.result.now 0 (omega arith) in
    subst (λ x. IsIn x c.index-node.result.now c.args.list) c.self.view_is (subst (λ x. IsIn c.self.inside.places.items x c.args.list) (sym first)
    (front_slot _ _ _ _ c.self.invariant.0 l c.args.list c.requires (λ f. c.if-node-head.false (first ∙ (f ∙ ap (λ x. x + c.args.list) (sym e))))).1)
