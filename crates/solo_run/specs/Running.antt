-- What a part of the run shows.
use Rattle.std.specs.Prelude.{◌≡◌, ℕ, false, List, [], ◌∷◌, ◌++◌, map, if◌then◌else◌}
use Rattle.outside_ports.specs.declared.port.Addr.{Addr}
use Rattle.outside_ports.specs.declared.port.Arrival.{Arrival}
use Rattle.sip_build.specs.Addresses.{reply_address}
use Rattle.pv_values.specs.declared.block.BlockKind.TheVariants as block
use Rattle.pv_values.specs.declared.run.How.{How}
use Rattle.cfg_tree.specs.declared.setting.Parameters.{Parameters}
use Rattle.cfg_tree.specs.declared.script.Script.{Script}
use Rattle.ht_core.specs.Shown.{state_of as table_of}
use Rattle.pv_table.specs.Facts.{undecided_facts}
use Rattle.pv_table.specs.declared.facts.Facts.{Facts}
use Rattle.pv_table.specs.declared.facts.Outcome.{Outcome}
use Rattle.pv_table.specs.declared.facts.Outcome.TheVariants.{Undecided, Stateless, Answered, Relayed, Suspended}
use Rattle.pv_table.specs.declared.facts.RunData.{RunData}
use Rattle.host_meaning.specs.declared.ask.Asked.{Asked}
use Rattle.host_meaning.specs.declared.settings.Settings.{Settings}
use Rattle.host_meaning.specs.Run.{Received, Around, RunState, is_readable}
use Rattle.host_meaning.specs.Host.{HostEnd, Finished, run_of}
use Rattle.txn_dialogue.specs.declared.mark.Mark.TheVariants.{Handled, Dropped}
use Rattle.txn_dialogue.specs.declared.mark.Cause.TheVariants as cause
use Rattle.txn_dialogue.specs.Slots.{Proxy, request_uri}
use Rattle.txn_dialogue.specs.Loose.{Handling, OfSlot, Runs, Answers, Drops, LooseEnd, loose_dialogue}
use Rattle.txn_dialogue.specs.LooseRuns.{loose_response, silent_mark}
use Rattle.script_host.specs.declared.ask.Answer.{Answer}
use Rattle.script_host.specs.Asking.{as_heard}
use Rattle.script_host.specs.Lending.{state_of}
use Rattle.sim_text.specs.declared.item.TraceItem.{TraceItem}
use Rattle.sim_text.specs.declared.item.TraceItem.TheVariants.{Out}
use Rattle.sim_text.specs.Trace.{items_text}
use Rattle.solo_run.specs.declared.objects.Objects.{Objects}
use Rattle.solo_run.specs.Objects.{Tables, answered}
use Rattle.solo_run.specs.Solo.{Played, played, shown_ask, shown_cause, shown_mark, shown_end, turn, shown_turn}

abbrev pub tables_of : Objects → Tables
tables_of o = map table_of o.tables.items

-- these items were shown, and the tables are these
pub record AreShown (items : List TraceItem) (tables : Tables) (old new : Objects) : Type 0 where
  pub trace : new.trace.items ≡ old.trace.items ++ items_text items
  pub tables_are : tables_of new ≡ tables

-- an ask was answered and shown
pub record IsAnswered (patterns : List (List ℕ)) (at : ℕ) (old : Objects) (ask : Asked) (answer : Answer) (new : Objects) : Type 0 where
  pub heard : as_heard answer ≡ (answered patterns at (tables_of old) ask).heard
  pub shown : AreShown (shown_ask at ask) (answered patterns at (tables_of old) ask).tables old new

-- what a datagram shows that runs no block
abbrev pub shown_handling : ℕ → Handling → List TraceItem
shown_handling at (OfSlot slot generation what) = []
shown_handling at (Runs request) = []
shown_handling at (Answers to text fits) = if fits then Out at to text ∷ [] else shown_cause at cause.TooLong
shown_handling at (Drops why) = shown_cause at why

-- ---- a run

-- what a run is given by these parameters
abbrev pub facts_at_first : Parameters → Received → Addr → Facts
facts_at_first parameters r source =
    undecided_facts block.Request source (request_uri r) (record { invite = parameters.fr_inv_timer; other = parameters.fr_timer })

-- a run with these objects
abbrev pub played_run : List (List ℕ) → Around → ℕ → Script → RunState → Tables → Played HostEnd
played_run patterns a at script s tables = played patterns at (run_of script script.request a s) tables

abbrev pub IsStateless : Outcome → Type 0
IsStateless Undecided = Unit {0}
IsStateless (Stateless response) = Unit {0}
IsStateless (Answered response) = ⊥
IsStateless (Relayed relay) = ⊥
IsStateless Suspended = ⊥

-- what a run may have decided as long as no function of a transaction has started
pub record HasNoTransaction (f : Facts) : Type 0 where
  pub outcome : IsStateless f.outcome
  pub responses : f.responses ≡ []
  pub relay : f.has_called_relay ≡ false

-- the run came to these data and this end
pub record RunsTo (patterns : List (List ℕ)) (a : Around) (at : ℕ) (script : Script) (s : RunState) (old : Objects) (end_data : RunData) (how : How)
    (new : Objects) : Type 0 where
  pub end : (played_run patterns a at script s (tables_of old)).end ≡ Finished (state_of end_data) how
  pub stateless : HasNoTransaction end_data.facts
  pub shown : AreShown (played_run patterns a at script s (tables_of old)).shown (played_run patterns a at script s (tables_of old)).tables old new

-- what is shown of what a run decided: the response that was sent, or why the request was dropped
abbrev pub shown_response : ℕ → Addr → List ℕ → List TraceItem
shown_response at to text = if is_readable text then Out at to text ∷ [] else []

abbrev pub shown_decision : ℕ → Received → Addr → Facts → How → Outcome → List TraceItem
shown_decision at r source f how Undecided = shown_mark at (silent_mark r f how)
shown_decision at r source f how (Stateless response) = shown_response at (reply_address r.message.via source) (loose_response r source response)
shown_decision at r source f how _ = []

-- ---- a datagram

abbrev pub proxy_of : Script → Settings → Proxy
proxy_of script settings = record { script = script; settings = settings; number = 0 }

abbrev pub played_at : Proxy → ℕ → Addr → Handling → Tables → Played LooseEnd
played_at p at source h tables = played p.script.patterns at (loose_dialogue p source h) tables

-- all that a datagram shows was shown
abbrev pub AreShownBy : ℕ → Played LooseEnd → Objects → Objects → Type 0
AreShownBy at p old new = AreShown (p.shown ++ shown_end at p.end) p.tables old new

abbrev pub IsTurn : Proxy → Arrival → Objects → Objects → Type 0
IsTurn p a old new = AreShown (shown_turn p a (tables_of old)) (turn p a (tables_of old)).tables old new
