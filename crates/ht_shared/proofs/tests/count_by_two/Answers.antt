use Rattle.std.proofs.Common.{arith, ap, ◌∙◌}
use Rattle.turn_table.specs.Tables.{id_of, fixed_of}
use Rattle.turn_table.proofs.Passes.{head_is, second_is, both_gone_on}
use Rattle.ht_shared.proofs.tests.count_by_two.Goals as goal

pub join-one-requires-after_bounds : goal.join-one-requires-after_bounds
join-one-requires-after_bounds g c κs within =
    let n = c.in_ok-tables.ensures in
    let ps = c.in_ok-tables.passes.items in
    let l = n.passes.0 in
    let a = n.passes.1 0 c.remove-one.result (head_is ps c.remove-one.result (omega arith) c.remove-one.ensures.value) in
    let b = n.passes.1 1 c.remove-two.result (second_is ps c.remove-one.new.self.items c.remove-two.result (omega arith) c.remove-one.ensures.items c.remove-two.ensures.value) in
    let count = n.specs.1 in
    let none = n.patterns ∙ (c.of-patterns.ensures ∙ c.new.ensures.items) in
    ((a.0, (a.1.0, a.1.1), count, none), (b.0, (b.1.0, b.1.1), count, none))

pub close-values-requires : goal.close-values-requires
close-values-requires g c =
    let n = c.in_ok-tables.ensures in
    let t = c.in_ok-tables.tables.turns in
    both_gone_on (id_of t) (fixed_of t) c.in_ok-tables.passes.items c.remove-one.new.self.items c.remove-two.new.self.items c.push_reserved.new.self.items c.push_reserved-2.new.self.items c.remove-one.result c.remove-two.result _ _ n.passes
    c.remove-one.ensures.value c.remove-one.ensures.items c.remove-two.ensures.value c.remove-two.ensures.items c.push_reserved.ensures.items c.push_reserved-2.ensures.items
    c.join-one.ensures.first c.join-one.ensures.second
