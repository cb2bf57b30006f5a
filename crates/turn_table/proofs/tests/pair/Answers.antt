use Rattle.std.proofs.Common.{arith}
use Rattle.turn_table.proofs.Passes.{head_is, second_is}
use Rattle.turn_table.proofs.tests.pair.Goals as goal

pub returns-clause-one : goal.returns-clause-one
returns-clause-one c =
    let n = c.in_ok-turns.ensures in
    let l = n.passes.0 in
    let t = n.passes.1 0 c.remove-one.result (head_is c.in_ok-turns.passes.items c.remove-one.result (omega arith) c.remove-one.ensures.value) in
    (t.0, t.1)

pub returns-clause-two : goal.returns-clause-two
returns-clause-two c =
    let n = c.in_ok-turns.ensures in
    let l = n.passes.0 in
    let t = n.passes.1 1 c.remove-two.result (second_is c.in_ok-turns.passes.items _ c.remove-two.result (omega arith) c.remove-one.ensures.items c.remove-two.ensures.value) in
    (t.0, t.1)
