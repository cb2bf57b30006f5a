use Rattle.pv_values.specs.declared.function.Func.TheVariants as func
use Rattle.cfg_calls.proofs.Literals.{items_read}
use Rattle.cfg_calls.proofs.checker.Checker.removing_items.Goals as goal

pub returns : goal.returns
returns c =
    items_read func.ShtRmNameRe c.args.known.now c.args.at c.args.args.now c.in-Some.word.now c.bytes.result.now c.in-Some-table_and_key.table.now c.in-Some-table_and_key.pattern.now
    c.in-Some.ensures c.bytes.ensures c.in-Some-table_and_key.ensures c.in_ok-table.ensures c.in_ok-pattern.ensures c.removal.ensures c.bare_call.ensures
