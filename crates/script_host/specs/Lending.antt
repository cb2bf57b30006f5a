-- What a run is lent.
use Rattle.std.specs.Prelude.{Option, Some, None, IfSome, length}
use Rattle.sip_msg.specs.Table.{Reads}
use Rattle.pv_table.specs.declared.facts.RunData.{RunData}
use Rattle.host_meaning.specs.Run.{Received, Around, RunState, received, around}
use Rattle.script_host.specs.declared.lent.Lent.{Lent}
use Rattle.script_host.specs.declared.lent.MessageView.{MessageView}

abbrev pub received_of : Option MessageView → Option Received
received_of None = None
received_of (Some m) = Some (received m.bytes.now m.message.now)

abbrev pub around_of : Lent → Around
around_of l = around l.loaded.now.parameters l.loaded.now.patterns l.settings.now (received_of l.message)

-- the reading is that of the bytes
abbrev pub IsReading : Received → Type 0
IsReading r = Reads r.bytes r.message

abbrev pub IsRead : Lent → Type 0
IsRead l = IfSome (received_of l.message) IsReading

-- the data of a run, with its blocks counted
abbrev pub state_of : RunData → RunState
state_of d = record { facts = d.facts; blocks = length d.blocks.items }
