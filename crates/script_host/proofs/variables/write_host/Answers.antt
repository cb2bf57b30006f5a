use Rattle.std.proofs.Common.{ap, ◌∙◌, sym}
use Rattle.pv_values.specs.declared.variable.PvUse.TheVariants as pv
use Rattle.script_host.proofs.Written.{written_under}
use Rattle.script_host.proofs.variables.write_host.Goals as goal

pub returns-in_ok-copy-in-Item-clause-row : goal.returns-in_ok-copy-in-Item-clause-row
returns-in_ok-copy-in-Item-clause-row c =
    written_under c.write_item.result _ _ c.args.value.now c.args.facts.now (ap (λ k. pv.Item c.in-Item.table k) c.in_ok-copy-in-Item.ensures ∙ sym c.in-Item.is) c.write_item.ensures
