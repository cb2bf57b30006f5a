-- The solo run: one worker handles the datagrams of a scenario in order, each at the moment at which it arrives, and keeps no
-- transaction.
use Rattle.std.specs.Prelude.{ℕ, List, [], ◌∷◌, ◌++◌, Option, Some, None, if◌then◌else◌}
use Rattle.dialogue.specs.Course.{Course, Ends, Asks, Takes}
use Rattle.outside_ports.specs.declared.port.Addr.{Addr}
use Rattle.outside_ports.specs.declared.port.Arrival.{Arrival}
use Rattle.sip_msg.specs.Basis.{basis_of}
use Rattle.cfg_tree.specs.declared.setting.Listen.{Listen}
use Rattle.cfg_tree.specs.declared.script.Script.{Script}
use Rattle.host_meaning.specs.declared.ask.Asked.{Asked}
use Rattle.host_meaning.specs.declared.ask.Asked.TheVariants as ask
use Rattle.host_meaning.specs.declared.ask.Heard.{Heard}
use Rattle.host_meaning.specs.declared.settings.HostAddress.{HostAddress}
use Rattle.host_meaning.specs.declared.settings.Settings.{Settings}
use Rattle.host_meaning.specs.Run.{Received}
use Rattle.txn_dialogue.specs.declared.mark.Mark.{Mark}
use Rattle.txn_dialogue.specs.declared.mark.Mark.TheVariants.{Handled, Dropped}
use Rattle.txn_dialogue.specs.declared.mark.Cause.{Cause}
use Rattle.txn_dialogue.specs.declared.mark.Cause.TheVariants as cause
use Rattle.txn_dialogue.specs.Slots.{Proxy, reading}
use Rattle.txn_dialogue.specs.Loose.{Handling, Runs, Drops, is_keepalive, malformed, is_response_line, LooseEnd, LooseDone, LooseAborted, loose_dialogue}
use Rattle.sim_text.specs.declared.item.Cause.TheVariants as shown
use Rattle.sim_text.specs.declared.item.TraceItem.{TraceItem}
use Rattle.sim_text.specs.declared.item.TraceItem.TheVariants.{Out, Drop, Log}
use Rattle.sim_text.specs.Scenario.{Contents}
use Rattle.sim_text.specs.Trace.{trace}
use Rattle.solo_run.specs.Objects.{Tables, fresh_tables, answered}

-- ---- which datagram is which

-- every response is a stray one, and every request runs `request_route`
abbrev pub handling_of : List ℕ → Addr → Option Received → Handling
handling_of b source None = malformed b source (basis_of b)
handling_of b source (Some r) = if is_response_line r.message.start then Drops cause.StrayReply else Runs r

abbrev pub handling : List ℕ → Addr → Handling
handling b source = if is_keepalive b then Drops cause.Keepalive else handling_of b source (reading b)

-- ---- a course with its answers

-- what it shows in a trace, how it ends, and the tables then
pub record Played (End : Type 0) : Type 0 where
  pub shown : List TraceItem
  pub end : End
  pub tables : Tables

abbrev pub behind : {End : Type 0} → List TraceItem → Played End → Played End
behind items p = record { shown = items ++ p.shown; end = p.end; tables = p.tables }

-- a datagram that is sent, and a text for the log, are shown
abbrev pub shown_ask : ℕ → Asked → List TraceItem
shown_ask at (ask.Send to text) = Out at to text ∷ []
shown_ask at (ask.Log text) = Log at text ∷ []
shown_ask at _ = []

-- memory is found wherever it is taken
abbrev pub played : {End : Type 0} → List (List ℕ) → ℕ → Course Asked Heard End → Tables → Played End
played patterns at (Ends end) tables = record { shown = []; end = end; tables = tables }
played patterns at (Asks ask next) tables =
    let a = answered patterns at tables ask in
    behind (shown_ask at ask) (played patterns at (next a.heard) a.tables)
played patterns at (Takes short on) tables = played patterns at on tables

-- ---- a datagram

abbrev pub shown_cause : ℕ → Cause → List TraceItem
shown_cause at cause.Keepalive = Drop at shown.Keepalive ∷ []
shown_cause at cause.NotSip = Drop at shown.NotSip ∷ []
shown_cause at cause.BadReply = Drop at shown.BadReply ∷ []
shown_cause at cause.StrayReply = Drop at shown.StrayReply ∷ []
shown_cause at (cause.Ended asked found) = Drop at shown.Ended ∷ []
shown_cause at cause.ScriptDrop = Drop at shown.ScriptDrop ∷ []
shown_cause at cause.ScriptSilent = Drop at shown.ScriptSilent ∷ []
shown_cause at cause.AckUnroutable = Drop at shown.AckUnroutable ∷ []
shown_cause at cause.TooLong = Drop at shown.TooLong ∷ []
shown_cause at cause.NoMemory = []

-- a datagram that was dropped is shown, behind all else of it
abbrev pub shown_mark : ℕ → Mark → List TraceItem
shown_mark at Handled = []
shown_mark at (Dropped why) = shown_cause at why

abbrev pub shown_end : ℕ → LooseEnd → List TraceItem
shown_end at (LooseDone mark) = shown_mark at mark
shown_end at LooseAborted = []

-- a datagram is handled
abbrev pub turn : Proxy → Arrival → Tables → Played LooseEnd
turn p a tables = played p.script.patterns a.at (loose_dialogue p a.from (handling a.bytes a.from)) tables

abbrev pub shown_turn : Proxy → Arrival → Tables → List TraceItem
shown_turn p a tables = (turn p a tables).shown ++ shown_end a.at (turn p a tables).end

-- ---- the whole

-- the datagrams in their order, each with the tables as those before it left them
abbrev pub solo : Proxy → List Arrival → Tables → List TraceItem
solo p [] tables = []
solo p (a ∷ rest) tables = shown_turn p a tables ++ solo p rest (turn p a tables).tables

-- where the proxy of a scenario listens: as the script says, or at 127.0.0.1:5060
abbrev pub listening : Option Listen → Addr
listening None = record { ip = 2130706433; port = 5060 }
listening (Some l) = record { ip = l.ip; port = l.port }

-- what it is started with: the addresses of the scenario, epoch 0, and no end of its own
abbrev pub solo_settings : Script → List HostAddress → Settings
solo_settings script hosts = record {
  listen = listening script.parameters.listen;
  epoch = 0;
  slots = 2048;
  blocks = 8192;
  hosts = hosts;
  run_for = None;
}

abbrev pub solo_proxy : Script → List HostAddress → Proxy
solo_proxy script hosts = record { script = script; settings = solo_settings script hosts; number = 0 }

-- the trace of the solo run of a script over a scenario
abbrev pub solo_trace : Script → Contents → List ℕ
solo_trace script said = trace (solo (solo_proxy script said.hosts) said.arrivals (fresh_tables script.tables)) said.end 0
