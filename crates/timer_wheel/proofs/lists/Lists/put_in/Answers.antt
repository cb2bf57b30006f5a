use Rattle.std.proofs.Common.{◌≡◌, ◌+◌, ◌/◌, Some, None, length, get_or, arith, ap}
use Rattle.std.specs.List.{slice_get}
use Rattle.std.proofs.lemmas.Option.{slice_get_within}
use Rattle.timer_wheel.proofs.Writes.{put_age, put_in}
use Rattle.timer_wheel.proofs.lists.Lists.put_in.Goals as goal

pub index_mut-requires-2 : goal.index_mut-requires-2
index_mut-requires-2 c = let v = ap length c.self.view_is in let free : slice_get c.self.inside.places.items c.args.slot ≡ Some None = rw c.self.view_is c.requires.slot in
    let h = slice_get_within c.self.inside.places.items c.args.slot None free in let i = c.self.invariant.1.nexts in let j = c.self.invariant.1.prevs in omega arith

pub index_mut-requires-3 : goal.index_mut-requires-3
index_mut-requires-3 c = let v = ap length c.self.view_is in let free : slice_get c.self.inside.places.items c.args.slot ≡ Some None = rw c.self.view_is c.requires.slot in
    let h = slice_get_within c.self.inside.places.items c.args.slot None free in let i = c.self.invariant.1.nexts in let j = c.self.invariant.1.prevs in omega arith

pub index_mut-requires-5 : goal.index_mut-requires-5
index_mut-requires-5 c = let v = ap length c.self.view_is in let free : slice_get c.self.inside.places.items c.args.slot ≡ Some None = rw c.self.view_is c.requires.slot in
    let h = slice_get_within c.self.inside.places.items c.args.slot None free in let i = c.self.invariant.1.nexts in let j = c.self.invariant.1.prevs in omega arith

pub invariant_of-self : goal.invariant_of-self
invariant_of-self c = let v = ap length c.self.view_is in let free : slice_get c.self.inside.places.items c.args.slot ≡ Some None = rw c.self.view_is c.requires.slot in let e : c.len.result ≡ length c.self.inside.places.items = omega arith in
    let w = c.index_mut-6.result.now in let w_is : w ≡ get_or c.self.inside.words.items (c.args.list / 64) w = c.index_mut-6.ensures.value in
    let p_is : c.index-prev.result.now ≡ get_or c.self.inside.prev.items (length c.self.inside.places.items + c.args.list) c.index-prev.result.now = rw (← e) c.index-prev.ensures in
    rw e (put_age _ _ _ _ c.self.invariant.0 c.self.invariant.1 c.args.slot c.args.list c.index-prev.result.now w free c.requires.list p_is w_is, put_in _ _ _ _ c.self.invariant.0 c.self.invariant.1 c.args.slot c.args.list c.index-prev.result.now w free c.requires.list p_is w_is)
