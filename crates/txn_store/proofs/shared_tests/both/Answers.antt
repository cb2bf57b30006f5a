use Rattle.std.proofs.Common.{arith}
use Rattle.turn_table.proofs.Passes.{head_is, second_is}
use Rattle.txn_store.proofs.shared_tests.both.Goals as goal

pub returns-clause-one : goal.returns-clause-one
returns-clause-one g c =
    let n = c.requires in
    let l = n.0 in
    let t = n.1 0 c.remove-one.result (head_is c.args.passes.items c.remove-one.result (omega arith) c.remove-one.ensures.value) in
    (t.0, t.1)

pub returns-clause-two : goal.returns-clause-two
returns-clause-two g c =
    let n = c.requires in
    let l = n.0 in
    let t = n.1 1 c.remove-two.result (second_is c.args.passes.items _ c.remove-two.result (omega arith) c.remove-one.ensures.items c.remove-two.ensures.value) in
    (t.0, t.1)
