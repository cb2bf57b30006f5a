use Rattle.std.proofs.Common.{rules, ◌≡◌, option_map}
use Rattle.pv_values.specs.declared.function.Func.TheVariants as func
use Rattle.cfg_calls.proofs.Literals.{table_read}
use Rattle.cfg_calls.proofs.checker.Checker.resetting.Goals as goal

pub returns : goal.returns
returns c =
    let made : c.map-func.result ≡ option_map func.ShtReset c.in_ok-table.table = search rules in
    table_read func.ShtReset c.args.known.now c.args.at c.args.args.now c.in-Some.word.now c.bytes.result.now c.in-Some.ensures c.bytes.ensures c.in_ok-table.ensures made c.bare_call.ensures
