-- The facts of a run that has decided nothing.
use Rattle.std.specs.Prelude.{ℕ, false, List, [], None}
use Rattle.outside_ports.specs.declared.port.Addr.{Addr}
use Rattle.pv_values.specs.declared.block.BlockKind.{BlockKind}
use Rattle.pv_table.specs.declared.facts.Facts.{Facts}
use Rattle.pv_table.specs.declared.facts.FinalTimers.{FinalTimers}
use Rattle.pv_table.specs.declared.facts.Outcome.TheVariants.{Undecided}

-- over a message that came from this source and has this target: nothing is edited, set, appended, armed, kept or counted, and there
-- is no transaction
abbrev pub undecided_facts : BlockKind → Addr → List ℕ → FinalTimers → Facts
undecided_facts kind source uri timers = record {
  kind = kind;
  source = source;
  edits = [];
  uri = uri;
  destination = None;
  targets = [];
  armed = record { branch = None; failure = None; reply = None };
  avps = [];
  outcome = Undecided;
  responses = [];
  has_called_relay = false;
  final_timers = timers;
  slot = 0;
  generation = 0;
  label = None;
  suspensions = 0;
  standing = record { exists = false; has_responded = false; is_answered = false; is_cancelled = false; is_suspended = false };
  best_code = None;
  branches = 0;
  removed = 0;
  continued = 0;
  is_continuation = false;
  has_record_route = false;
  loose_route = None;
  absent_hops = None;
}
