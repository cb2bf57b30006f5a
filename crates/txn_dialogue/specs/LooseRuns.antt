-- A run of `request_route` over an ACK or a CANCEL, which have no transaction of their own.
use Rattle.std.specs.Prelude.{ℕ, ◌+◌, not, ◌&&◌, List, [], ◌∷◌, map, Option, Some, None, if◌then◌else◌}
use Rattle.std.specs.List.{list_any}
use Rattle.outside_ports.specs.declared.port.Addr.{Addr}
use Rattle.sip_build.specs.Addresses.{reply_address}
use Rattle.sip_build.specs.Reply.{reply_text}
use Rattle.pv_values.specs.declared.block.BlockKind.TheVariants as block
use Rattle.pv_values.specs.declared.run.How.{How}
use Rattle.pv_table.specs.Facts.{undecided_facts}
use Rattle.pv_table.specs.declared.facts.Facts.{Facts}
use Rattle.pv_table.specs.declared.facts.Relay.{Relay}
use Rattle.pv_table.specs.declared.facts.Response.{Response}
use Rattle.pv_table.specs.declared.facts.Outcome.{Outcome}
use Rattle.pv_table.specs.declared.facts.Outcome.TheVariants.{Undecided, Stateless, Answered, Relayed, Suspended}
use Rattle.host_meaning.specs.Run.{Received, RunState, is_readable}
use Rattle.host_meaning.specs.Responses.{is_ack}
use Rattle.host_meaning.specs.Relaying.{target_address, loose_ack}
use Rattle.txn_dialogue.specs.declared.mark.Mark.{Mark}
use Rattle.txn_dialogue.specs.declared.mark.Mark.TheVariants.{Handled, Dropped}
use Rattle.txn_dialogue.specs.declared.mark.Cause.TheVariants as cause
use Rattle.txn_dialogue.specs.Slots.{Proxy, request_uri}
use Rattle.txn_dialogue.specs.Sends.{Sent, Work, and_sent}
use Rattle.txn_dialogue.specs.Ending.{StepCourse, finish}
use Rattle.txn_dialogue.specs.Runs.{around_of, ran}
use Rattle.txn_dialogue.specs.Rounds.{is_drop}

-- what such a run is given: it has decided nothing, and there is no transaction
abbrev pub loose_facts : Proxy → Received → Addr → Facts
loose_facts p r source =
    undecided_facts block.Request source (request_uri r)
    (record { invite = p.script.parameters.fr_inv_timer; other = p.script.parameters.fr_timer })

-- ---- what it sends

abbrev pub loose_response : Received → Addr → Response → List ℕ
loose_response r source response = reply_text r.bytes r.message source response.code response.reason

abbrev pub loose_responses : Received → Addr → List Response → List (List ℕ)
loose_responses r source responses = map (loose_response r source) responses

abbrev pub all_sent : Addr → List (List ℕ) → List Sent → List Sent
all_sent to [] sends = sends
all_sent to (text ∷ texts) sends = all_sent to texts (and_sent to text None sends)

-- an ACK that is relayed goes on to its one target; a CANCEL was answered
abbrev pub ack_sent_to : Option Addr → List ℕ → List Sent → List Sent
ack_sent_to None text sends = sends
ack_sent_to (Some to) text sends = and_sent to text None sends

abbrev pub relay_sent : Proxy → Received → Addr → Relay → List Sent → List Sent
relay_sent p r source relay sends =
    if is_ack r
    then ack_sent_to (target_address (around_of p r) (record { uri = relay.uri; destination = relay.destination })) (loose_ack (around_of p r) r source relay) sends
    else sends

abbrev pub outcome_sent : Proxy → Received → Addr → Outcome → List Sent → List Sent
outcome_sent p r source Undecided sends = sends
outcome_sent p r source (Stateless response) sends = and_sent (reply_address r.message.via source) (loose_response r source response) None sends
outcome_sent p r source (Answered response) sends = sends
outcome_sent p r source (Relayed relay) sends = relay_sent p r source relay sends
outcome_sent p r source Suspended sends = sends

-- what it decided, behind what was sent before
abbrev pub loosely_sent : Proxy → Received → Addr → Facts → List Sent → List Sent
loosely_sent p r source f sends =
    outcome_sent p r source f.outcome (all_sent (reply_address r.message.via source) (loose_responses r source f.responses) sends)

-- ---- its mark

-- An ACK whose run called t_relay() and decided nothing found no way; that goes before the other two
abbrev pub silent_mark : Received → Facts → How → Mark
silent_mark r f h =
    if is_ack r && f.has_called_relay then Dropped cause.AckUnroutable
    else if is_drop h then Dropped cause.ScriptDrop
    else Dropped cause.ScriptSilent

-- a response that is too long isn't sent
abbrev pub decided_mark : Received → Addr → Facts → Mark
decided_mark r source f =
    if list_any (λ text. not (is_readable text)) (loose_responses r source f.responses) then Dropped cause.TooLong else Handled

abbrev pub mark_by : Outcome → Mark → Mark → Mark
mark_by Undecided silent decided = silent
mark_by (Stateless response) silent decided = decided
mark_by (Answered response) silent decided = decided
mark_by (Relayed relay) silent decided = decided
mark_by Suspended silent decided = decided

abbrev pub loose_mark : Received → Addr → Facts → How → Mark
loose_mark r source f h = mark_by f.outcome (silent_mark r f h) (decided_mark r source f)

-- ---- an ACK that reached an accepted INVITE

abbrev pub takes_nothing : RunState → Work → Work
takes_nothing s w = record w { blocks = w.blocks + s.blocks }

abbrev pub with_loose_sends : Proxy → Received → Addr → Facts → Work → Work
with_loose_sends p r source f w = record w { sends = loosely_sent p r source f w.sends }

-- it runs as one that belongs to no transaction, in the slot's step
abbrev pub loosely_ran : Proxy → Option Received → Addr → Work → StepCourse
loosely_ran p None source w = finish Handled w
loosely_ran p (Some r) source w =
    ran p p.script.request r (loose_facts p r source) takes_nothing w
    (λ w' f h. finish (loose_mark r source f h) (with_loose_sends p r source f w'))
