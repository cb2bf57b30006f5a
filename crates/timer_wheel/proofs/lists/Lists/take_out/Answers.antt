use Rattle.std.proofs.Common.{◌≡◌, ◌<◌, length, arith, ap}
use Rattle.timer_wheel.proofs.Writes.{p_within, q_within, k_few, taken_out, emptied, word_in}
use Rattle.timer_wheel.proofs.lists.Lists.take_out.Goals as goal

pub index_mut-requires : goal.index_mut-requires
index_mut-requires c = let v = ap length c.self.view_is in let lt : c.args.slot < length c.self.inside.places.items = omega arith in
    let h = p_within _ _ _ _ c.self.invariant.0 c.self.invariant.1 c.args.slot c.in-Some.list c.index-prev.result.now c.index-next.result.now c.index.result.now c.index.ensures c.in-Some.is lt c.index-prev.ensures c.index-next.ensures in omega arith

pub index_mut-requires-2 : goal.index_mut-requires-2
index_mut-requires-2 c = let v = ap length c.self.view_is in let lt : c.args.slot < length c.self.inside.places.items = omega arith in
    let h = q_within _ _ _ _ c.self.invariant.0 c.self.invariant.1 c.args.slot c.in-Some.list c.index-prev.result.now c.index-next.result.now c.index.result.now c.index.ensures c.in-Some.is lt c.index-prev.ensures c.index-next.ensures in omega arith

pub index-requires-2 : goal.index-requires-2
index-requires-2 c = let v = ap length c.self.view_is in let lt : c.args.slot < length c.self.inside.places.items = omega arith in
    let few = k_few _ _ _ _ c.self.invariant.0 c.self.invariant.1 c.args.slot c.in-Some.list c.index-prev.result.now c.index-next.result.now c.index.result.now c.index.ensures c.in-Some.is lt c.index-prev.ensures c.index-next.ensures in let many = c.self.invariant.1.nexts in omega arith

pub index_mut-requires-then-index-head : goal.index_mut-requires-then-index-head
index_mut-requires-then-index-head c = let v = ap length c.self.view_is in let lt : c.args.slot < length c.self.inside.places.items = omega arith in
    let h = word_in _ _ _ _ c.self.invariant.0 c.self.invariant.1 c.args.slot c.in-Some.list c.index-prev.result.now c.index-next.result.now c.index.result.now c.index.ensures c.in-Some.is lt c.index-prev.ensures c.index-next.ensures in omega arith

pub invariant_of-self : goal.invariant_of-self
invariant_of-self c = let v = ap length c.self.view_is in let lt : c.args.slot < length c.self.inside.places.items = omega arith in
    let e : c.len.result ≡ length c.self.inside.places.items = omega arith in
    let h_is = c.index-2.ensures in let none = c.if-index-head.true in (
      c.self.invariant.0,
      emptied _ _ _ _ c.self.invariant.0 c.self.invariant.1 c.args.slot c.in-Some.list c.index-prev.result.now c.index-next.result.now c.index.result.now c.index.ensures c.in-Some.is lt c.index-prev.ensures c.index-next.ensures
          c.index-2.result.now c.index_mut-then-index-head.result.now (rw (← e) h_is) (rw (← e) none) c.index_mut-then-index-head.ensures.value,
    )

pub invariant_of-self-else-index-head : goal.invariant_of-self-else-index-head
invariant_of-self-else-index-head c = let v = ap length c.self.view_is in let lt : c.args.slot < length c.self.inside.places.items = omega arith in
    let e : c.len.result ≡ length c.self.inside.places.items = omega arith in
    let h_is = c.index-2.ensures in let some = c.if-index-head.false in (
      c.self.invariant.0,
      taken_out _ _ _ _ c.self.invariant.0 c.self.invariant.1 c.args.slot c.in-Some.list c.index-prev.result.now c.index-next.result.now c.index.result.now c.index.ensures c.in-Some.is lt c.index-prev.ensures c.index-next.ensures
          c.index-2.result.now (rw (← e) h_is) (rw (← e) some),
    )
