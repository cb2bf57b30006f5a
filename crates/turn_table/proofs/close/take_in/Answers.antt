use Rattle.std.proofs.Common.{◌≡◌, ◌+◌, ◌<◌, ◌++◌, length, length-append, arith, refl, sym, ap, ◌∙◌, vec_len, map}
use Rattle.turn_table.specs.Passes.{own_of}
use Rattle.turn_table.proofs.Passes.{head_is, follow_rest, not_zero, joins_as, own_next, own_all, is_zero}
use Rattle.turn_table.proofs.close.take_in.Goals as goal

some_left : (g : _) (c : goal.After-first-1 g) → 0 < length c.loop-passes.passes.items
some_left g c = let l = c.loop-passes.passes.ok.0 in let n : 0 < vec_len c.loop-passes.passes = not_zero _ (sym c.is_empty.ensures ∙ c.loop-passes-test.true) in omega arith

pub join_seat-requires : goal.join_seat-requires
join_seat-requires g c = let i = c.loop-passes.invariant in
    let n = i.others 0 c.remove-next.result (head_is c.loop-passes.passes.items c.remove-next.result (some_left g c) c.remove-next.ensures.value) in
    (i.is_pass.0, n.0.0, n.1.0, c.requires.some_word, joins_as _ _ g.C.TurnCell.stands _ _ _ _ _ i.is_pass.1 n.0.1 n.1.1 n.2)

pub loop-passes-preserved : goal.loop-passes-preserved
loop-passes-preserved g c = let i = c.loop-passes.invariant in let e = c.join_seat.ensures in let r = c.remove-next.ensures in
    let l : length c.loop-passes.first.me.0.got + 1 ≡ length c.join_seat.new.seat.me.0.got = sym (ap (λ z. length z.0.got) e.2 ∙ length-append c.loop-passes.first.me.0.got _) in record {
      is_pass = (e.0 ∙ i.is_pass.0, ap (λ z. z.0.fixed) e.2 ∙ i.is_pass.1);
      is_free = (ap (λ z. z.1) e.2 ∙ i.is_free.0, ap (λ z. z.0.holds) e.2 ∙ i.is_free.1);
      made = ap (λ z. z.0.made) e.2 ∙ i.made;
      others = follow_rest _ _ (length c.loop-passes.first.me.0.got + 1) _ c.loop-passes.passes.items _ (let n : 0 < vec_len c.loop-passes.passes = not_zero _ (sym c.is_empty.ensures ∙ c.loop-passes-test.true) in let m = c.loop-passes.passes.ok.0 in omega arith) (ap (λ n. n + 1) l) r.items i.others;
      mine = ap (λ z. z.0.mine) e.2 ∙ i.mine;
      own = own_next c.loop-passes.first.me.0.got _ c.loop-passes.passes.items _ c.remove-next.result (let n : 0 < vec_len c.loop-passes.passes = not_zero _ (sym c.is_empty.ensures ∙ c.loop-passes-test.true) in let m = c.loop-passes.passes.ok.0 in omega arith) r.value r.items (ap (λ z. z.0.got) e.2) ∙ i.own;
      count = let n = i.count in let m = r.len in omega arith;
    }

pub loop-passes-init : goal.loop-passes-init
loop-passes-init g c = record {
  is_pass = c.requires.first.0;
  is_free = c.requires.first.1;
  made = refl;
  mine = refl;
  own = ap (λ l. l ++ map own_of c.args.passes.items) c.requires.first.2;
  others = λ i p is. let t = c.requires.others i p is in let l = ap (λ z. length z) c.requires.first.2 in (t.0, t.1, t.2 ∙ ap (λ n. (n + 1) + i) (sym l));
  count = let l = ap (λ z. length z) c.requires.first.2 in omega arith;
}

pub returns-clause-own : goal.returns-clause-own
returns-clause-own g c = let i = c.loop-passes.invariant in (i.mine, own_all c.loop-passes.first.me.0.got c.loop-passes.passes.items c.args.passes.items (sym c.loop-passes.passes.ok.0 ∙ is_zero _ (sym c.is_empty.ensures ∙ c.loop-passes-test.false)) i.own)
