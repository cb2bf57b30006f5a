-- What a view of an ask shows.
use Rattle.pv_values.specs.declared.variable.PvUse.{PvUse}
use Rattle.pv_values.specs.declared.variable.PvUse.TheVariants as pv
use Rattle.pv_values.specs.declared.run.HostAsk.{HostAsk}
use Rattle.pv_values.specs.declared.run.HostAsk.TheVariants as ask
use Rattle.cfg_tree.specs.Meaning.{item_of}
use Rattle.script_vm.specs.declared.ask.VariableView.{VariableView}
use Rattle.script_vm.specs.declared.ask.VariableView.TheVariants as variable
use Rattle.script_vm.specs.declared.ask.AskView.{AskView}
use Rattle.script_vm.specs.declared.ask.AskView.TheVariants as view

abbrev pub shown_variable : VariableView → PvUse
shown_variable (variable.Host x) = x.now
shown_variable (variable.Item way t key) = item_of way t key.now
shown_variable variable.Null = pv.Null

abbrev pub shown_ask : AskView → HostAsk
shown_ask (view.Read x) = ask.Read (shown_variable x)
shown_ask (view.Write x v) = ask.Write (shown_variable x) v.now
shown_ask (view.Call f values) = ask.Call f.now values.now
