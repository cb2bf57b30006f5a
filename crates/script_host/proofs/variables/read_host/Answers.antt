use Rattle.std.proofs.Common.{ap, ◌∙◌, sym}
use Rattle.pv_values.specs.declared.variable.PvUse.TheVariants as pv
use Rattle.pv_values.specs.declared.run.HostAnswer.TheVariants as told
use Rattle.pv_values.specs.Values.{bit}
use Rattle.cfg_code.specs.Flat.{FlatScript}
use Rattle.host_meaning.specs.Run.{around}
use Rattle.host_meaning.specs.Ours.{is_myself}
use Rattle.script_host.specs.declared.row.Row.TheVariants as row
use Rattle.script_host.specs.Lending.{around_of}
use Rattle.script_host.specs.Rows.{with_blocks}
use Rattle.script_host.proofs.Read.{read_under, told_value}
use Rattle.script_host.proofs.variables.read_host.Goals as goal

pub returns-in_ok-copy-in-Item : goal.returns-in_ok-copy-in-Item
returns-in_ok-copy-in-Item c =
    read_under (around_of c.args.lent.now) c.read_item.result _ _ c.args.facts.now (ap (λ k. pv.Item c.in-Item.table k) c.in_ok-copy-in-Item.ensures ∙ sym c.in-Item.is)
    (c.read_item.ensures (around_of c.args.lent.now) c.args.facts.now)

pub returns-in_ok-copy-in-ItemSeconds : goal.returns-in_ok-copy-in-ItemSeconds
returns-in_ok-copy-in-ItemSeconds c =
    read_under (around_of c.args.lent.now) c.read_item-in-ItemSeconds.result _ _ c.args.facts.now (ap (λ k. pv.ItemSeconds c.in-ItemSeconds.table k) c.in_ok-copy-in-ItemSeconds.ensures ∙ sym c.in-ItemSeconds.is)
    (c.read_item-in-ItemSeconds.ensures (around_of c.args.lent.now) c.args.facts.now)

pub returns-in_ok-copy-in-ItemIncrement : goal.returns-in_ok-copy-in-ItemIncrement
returns-in_ok-copy-in-ItemIncrement c =
    read_under (around_of c.args.lent.now) c.read_item-in-ItemIncrement.result _ _ c.args.facts.now (ap (λ k. pv.ItemIncrement c.in-ItemIncrement.table k) c.in_ok-copy-in-ItemIncrement.ensures ∙ sym c.in-ItemIncrement.is)
    (c.read_item-in-ItemIncrement.ensures (around_of c.args.lent.now) c.args.facts.now)

pub returns-in_ok-copy-in-ItemDecrement : goal.returns-in_ok-copy-in-ItemDecrement
returns-in_ok-copy-in-ItemDecrement c =
    read_under (around_of c.args.lent.now) c.read_item-in-ItemDecrement.result _ _ c.args.facts.now (ap (λ k. pv.ItemDecrement c.in-ItemDecrement.table k) c.in_ok-copy-in-ItemDecrement.ensures ∙ sym c.in-ItemDecrement.is)
    (c.read_item-in-ItemDecrement.ensures (around_of c.args.lent.now) c.args.facts.now)

pub returns-in-Myself : goal.returns-in-Myself
returns-in-Myself c =
    read_under (around_of c.args.lent.now) (row.Tells (told.Value c.bit_value.result)) pv.Myself _ c.args.facts.now (sym c.in-Myself.is)
    (λ blocks. ap (λ v. told_value v (with_blocks c.args.facts.now blocks))
    (ap (λ p. bit (is_myself (around p (around_of c.args.lent.now).patterns c.args.lent.now.settings.now (around_of c.args.lent.now).received) (with_blocks c.args.facts.now blocks))) (ap (λ (l : FlatScript). l.parameters) (sym c.loaded.view_is))
    ∙ sym (c.bit_value.ensures ∙ ap bit (c.is_myself-ours.ensures (around_of c.args.lent.now).patterns (around_of c.args.lent.now).received blocks))))
