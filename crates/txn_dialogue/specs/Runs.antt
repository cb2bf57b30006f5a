-- The runs of blocks in a step: what a run is given, and what is made of what it has at its end.
use Rattle.std.specs.Prelude.{ℕ, ◌+◌, false, List, [], length, Option, Some, is_some}
use Rattle.dialogue.specs.Course.{and_then}
use Rattle.outside_ports.specs.declared.port.Addr.{Addr}
use Rattle.msg_edits.specs.declared.parts.Edit.{Edit}
use Rattle.pv_values.specs.declared.block.BlockKind.{BlockKind}
use Rattle.pv_values.specs.declared.run.How.{How}
use Rattle.pv_table.specs.declared.facts.Facts.{Facts}
use Rattle.pv_table.specs.declared.facts.Standing.{Standing}
use Rattle.pv_table.specs.declared.facts.Outcome.TheVariants.{Undecided}
use Rattle.host_meaning.specs.Run.{Received, Around, RunState, around}
use Rattle.host_meaning.specs.Host.{HostEnd, Finished, RanOut, run_of}
use Rattle.txn_dialogue.specs.Slots.{Proxy}
use Rattle.txn_dialogue.specs.Sends.{Work, has_final}
use Rattle.txn_dialogue.specs.Ending.{StepCourse}
use Rattle.txn_dialogue.specs.Memory.{short}

-- what a run of the script over a message never changes
abbrev pub around_of : Proxy → Received → Around
around_of p r = around p.script.parameters p.script.patterns p.settings (Some r)

-- how the transaction stands
abbrev pub standing_of : Work → Standing
standing_of w = record {
  exists = w.exists;
  has_responded = w.state.server.answered;
  is_answered = has_final w.state;
  is_cancelled = w.state.is_cancelled;
  is_suspended = is_some w.state.suspension;
}

-- what a run is given over a message from this source, with these edits, this target and destination, and this best code; what it
-- decides is nothing yet
abbrev pub facts_at : Proxy → Work → BlockKind → Addr → List Edit → List ℕ → Option (List ℕ) → Option ℕ → Facts
facts_at p w kind source edits uri destination best = record {
  kind = kind;
  source = source;
  edits = edits;
  uri = uri;
  destination = destination;
  targets = w.state.targets;
  armed = w.state.armed;
  avps = w.state.avps;
  outcome = Undecided;
  responses = [];
  has_called_relay = false;
  final_timers = w.state.final_timers;
  slot = p.number;
  generation = w.origin.generation;
  label = w.state.label;
  suspensions = w.state.suspensions;
  standing = standing_of w;
  best_code = best;
  branches = length w.state.branches + w.state.removed;
  removed = w.state.removed;
  continued = w.continued;
  is_continuation = w.is_continuation;
  has_record_route = w.state.has_record_route;
  loose_route = w.state.loose_route;
  absent_hops = w.state.absent_hops;
}

-- over the request as the transaction has it
abbrev pub request_facts : Proxy → Work → BlockKind → Option ℕ → Facts
request_facts p w kind best = facts_at p w kind w.origin.source w.state.edits w.state.uri w.state.destination best

-- a run begins with no block of its own
abbrev pub beginning : Facts → RunState
beginning f = record { facts = f; blocks = 0 }

-- what the transaction takes over from a run over its request
abbrev pub takes : RunState → Work → Work
takes s w = record w {
  state = record w.state {
    edits = s.facts.edits;
    uri = s.facts.uri;
    destination = s.facts.destination;
    targets = s.facts.targets;
    avps = s.facts.avps;
    armed = s.facts.armed;
    final_timers = s.facts.final_timers;
    has_record_route = s.facts.has_record_route;
    loose_route = s.facts.loose_route;
    absent_hops = s.facts.absent_hops;
    label = s.facts.label;
    suspensions = s.facts.suspensions;
  };
  blocks = w.blocks + s.blocks;
  exists = s.facts.standing.exists;
  continued = s.facts.continued;
}

-- from a run over a branch or over a response: its AVPs alone
abbrev pub takes_avps : RunState → Work → Work
takes_avps s w = record w {
  state = record w.state { avps = s.facts.avps };
  blocks = w.blocks + s.blocks;
  continued = s.facts.continued;
}

-- what comes after a run: the work with what it took over, what the run has, and how it ended
abbrev pub After : Type 0
After = Work → Facts → How → StepCourse

abbrev pub ended : (RunState → Work → Work) → Work → After → HostEnd → StepCourse
ended take w after (Finished s how) = after (take s w) s.facts how
ended take w after (RanOut k) = short k w

-- a block runs over a message with these facts, and then this comes
abbrev pub ran : Proxy → ℕ → Received → Facts → (RunState → Work → Work) → Work → After → StepCourse
ran p block r f take w after = and_then (run_of p.script block (around_of p r) (beginning f)) (ended take w after)
