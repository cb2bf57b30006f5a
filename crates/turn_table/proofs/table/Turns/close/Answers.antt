use Rattle.std.proofs.Common.{arith, ap, ◌∙◌}
use Rattle.turn_table.proofs.Passes.{head_is, follow_rest, closes_as, own_whole}
use Rattle.turn_table.proofs.table.Turns.close.Goals as goal

pub take_in-first-requires-clause-first : goal.take_in-first-requires-clause-first
take_in-first-requires-clause-first g c = λ κs b. let e = head_is c.args.passes.items c.remove-first.result c.requires.some_pass c.remove-first.ensures.value in let h = c.requires.each 0 c.remove-first.result e in
    (h.0, h.1, (c.requires.first c.remove-first.result e).1)

pub take_in-first-requires-clause-others : goal.take_in-first-requires-clause-others
take_in-first-requires-clause-others g c = λ κs b. follow_rest _ _ 0 1 c.args.passes.items _ c.requires.some_pass (omega arith) c.remove-first.ensures.items c.requires.each

pub returns-clause-closes : goal.returns-clause-closes
returns-clause-closes g c =
    let e = head_is c.args.passes.items c.remove-first.result c.requires.some_pass c.remove-first.ensures.value in
    let made = (c.requires.first c.remove-first.result e).0 in
    let t = c.take_in-first.ensures in
    let some_pass = c.requires.some_pass in
    let l = c.args.passes.ok.0 in
    let m = c.remove-first.ensures.len in
    let a = t.all.0 in
    let b = t.all.1 in
    closes_as _ _ g.C.TurnCell.stands _ _ c.take_in-first.result.me.0 _ _ _ _ t.same.0.1 (omega arith) (omega arith) t.same.1.1 c.close_with.ensures.values.2 c.emptied-values.ensures (ap (λ z. z.me.0) c.of-last.ensures)

pub returns-clause-own : goal.returns-clause-own
returns-clause-own g c = let t = c.take_in-first.ensures.own in let e = c.of-last.ensures in
    own_whole c.remove-first.result c.args.passes.items _ c.of-last.result.value.me.0 c.requires.some_pass c.remove-first.ensures.value c.remove-first.ensures.items (ap (λ z. z.me.0.mine) e ∙ t.0) (ap (λ z. z.me.0.got) e ∙ t.1)
