-- Rounds: targets become branches, and when all have failed the best response is chosen (RFC 3261, sections 16.6 and 16.7).
use Rattle.std.specs.Prelude.{ℕ, zero, suc, ◌==◌, Bool, true, false, not, ◌&&◌, ◌||◌, List, [], ◌∷◌, ◌++◌, length, map, filter, Option, Some, None, nat_le, nat_lt, slice_get, if◌then◌else◌, codes}
use Rattle.std.specs.List.{list_any}
use Rattle.outside_ports.specs.declared.port.Addr.{Addr}
use Rattle.sip_scan.specs.declared.field.HeaderSpan.{HeaderSpan}
use Rattle.sip_build.specs.Parts.{part}
use Rattle.sip_build.specs.WithField.{with_field}
use Rattle.txn_moments.specs.Moments.{moment_after}
use Rattle.fork_core.specs.Responses.{History, BranchResponse, with_branch, next_round}
use Rattle.fork_core.specs.Decisions.{best_of, challenges, has_failed}
use Rattle.pv_values.specs.declared.block.BlockKind.TheVariants as block
use Rattle.pv_values.specs.declared.run.How.{How}
use Rattle.pv_values.specs.declared.run.How.TheVariants as how
use Rattle.pv_table.specs.Fields.{is_field_named}
use Rattle.pv_table.specs.declared.facts.Facts.{Facts}
use Rattle.pv_table.specs.declared.facts.Relay.{Relay}
use Rattle.pv_table.specs.declared.facts.Target.{Target}
use Rattle.pv_table.specs.declared.facts.Outcome.{Outcome}
use Rattle.pv_table.specs.declared.facts.Outcome.TheVariants.{Undecided, Stateless, Answered, Relayed, Suspended}
use Rattle.host_meaning.specs.Run.{Received, is_readable}
use Rattle.host_meaning.specs.Transactions.{is_invite}
use Rattle.host_meaning.specs.Relaying.{target_address, targets_of, branch_request}
use Rattle.txn_dialogue.specs.declared.mark.Mark.TheVariants.{Handled}
use Rattle.txn_dialogue.specs.Slots.{Proxy, TxnBranch, TxnState, reading}
use Rattle.txn_dialogue.specs.Sends.{Sent, Work, and_sent, responding, responded, all_responded, begun_client}
use Rattle.txn_dialogue.specs.Ending.{StepCourse, finish}
use Rattle.txn_dialogue.specs.Runs.{around_of, facts_at, request_facts, takes, takes_avps, ran}

-- ---- a branch

-- a request that goes out on a new branch: to where, and its text as it reads
pub record Launch : Type 0 where
  pub to : Addr
  pub request : Received

abbrev pub launch_of : Option Addr → Option Received → Option Launch
launch_of (Some to) (Some r) = Some (record { to = to; request = r })
launch_of to r = None

-- the request to this target, with these edits: none where it has no destination, or doesn't read
abbrev pub launch_to : Proxy → Relay → Target → Work → Option Launch
launch_to p relay t w =
    launch_of (target_address (around_of p w.origin.request) t)
    (reading (branch_request (around_of p w.origin.request) w.origin.request w.origin.source relay t.uri p.number w.origin.generation (length w.state.branches)))

-- its client has sent it, and `fr` runs
abbrev pub new_branch : Launch → Work → TxnBranch
new_branch l w = record {
  request = l.request;
  to = l.to;
  client = begun_client (is_invite w.origin.request) w.now;
  cancel = None;
  kept = None;
  is_cancelled = false;
  unsent_due = None;
  final_due = Some (moment_after w.now w.state.final_timers.other);
  quit_due = None;
}

abbrev pub history_with : Option Launch → History → History
history_with None h = h
history_with (Some l) h = with_branch h

abbrev pub branches_with : Option Launch → Work → List TxnBranch
branches_with None w = w.state.branches
branches_with (Some l) w = w.state.branches ++ new_branch l w ∷ []

abbrev pub sends_with : Option Launch → Work → List Sent
sends_with None w = w.sends
sends_with (Some l) w = and_sent l.to l.request.bytes (Some (length w.state.branches)) w.sends

abbrev pub removed_with : Option Launch → ℕ → ℕ
removed_with None removed = suc removed
removed_with (Some l) removed = removed

-- a target becomes a branch, or is removed
abbrev pub launched : Option Launch → Work → Work
launched l w = record w {
  state = record w.state {
    history = history_with l w.state.history;
    branches = branches_with l w;
    removed = removed_with l w.state.removed;
  };
  sends = sends_with l w;
}

abbrev pub is_drop : How → Bool
is_drop how.Drop = true
is_drop _ = false

-- `drop` in a branch block removes the target
abbrev pub unless_drop : How → Option Launch → Option Launch
unless_drop h l = if is_drop h then None else l

-- the target, and what is sent to it, as a branch block left them
abbrev pub target_in : Facts → Target
target_in f = record { uri = f.uri; destination = f.destination }

abbrev pub relay_in : Relay → Facts → Relay
relay_in relay f = record relay { edits = f.edits }

-- ---- the best response

-- the response that is chosen: its code, and its text where it was received; else it is made
pub record Best : Type 0 where
  pub code : ℕ
  pub text : Option (List ℕ)

abbrev pub made : ℕ → Best
made code = record { code = code; text = None }

abbrev pub kept_text : Option TxnBranch → Option (List ℕ)
kept_text None = None
kept_text (Some b) = b.kept

abbrev pub kept_at : TxnState → ℕ → Option (List ℕ)
kept_at s n = kept_text (slice_get s.branches n)

-- WWW-Authenticate and Proxy-Authenticate
abbrev pub is_challenge_field : List ℕ → HeaderSpan → Bool
is_challenge_field b f = is_field_named b (codes "WWW-Authenticate") f || is_field_named b (codes "Proxy-Authenticate") f

abbrev pub fields_of_message : Option Received → List (List ℕ)
fields_of_message None = []
fields_of_message (Some r) = map (λ f. part r.bytes f.whole) (filter (is_challenge_field r.bytes) r.message.head.fields.items)

abbrev pub challenge_fields : Option (List ℕ) → List (List ℕ)
challenge_fields None = []
challenge_fields (Some text) = fields_of_message (reading text)

-- a field that doesn't fit is left out, and the next one is tried
abbrev pub joined_field : List ℕ → List ℕ → List ℕ
joined_field text field = if is_readable (with_field text field) then with_field text field else text

abbrev pub joined_fields : List ℕ → List (List ℕ) → List ℕ
joined_fields text [] = text
joined_fields text (f ∷ fs) = joined_fields (joined_field text f) fs

-- those of the other challenges of the round, by number of branch (RFC 3261, section 16.7, step 7)
abbrev pub with_challenges : TxnState → List ℕ → List ℕ → List ℕ
with_challenges s [] text = text
with_challenges s (n ∷ ns) text = with_challenges s ns (joined_fields text (challenge_fields (kept_at s n)))

abbrev pub text_with_challenges : TxnState → ℕ → Option (List ℕ) → Option (List ℕ)
text_with_challenges s n None = None
text_with_challenges s n (Some text) = Some (with_challenges s (challenges s.history n) text)

-- a round without a branch counts as one response 503
abbrev pub chosen : TxnState → Option BranchResponse → Best
chosen s None = made 503
chosen s (Some r) = record { code = r.code; text = text_with_challenges s r.branch (kept_at s r.branch) }

abbrev pub best_response : TxnState → Best
best_response s = chosen s (best_of s.history)

-- 503 is sent as 500, since it would say too much of this proxy (RFC 3261, section 16.7, step 6)
abbrev pub code_sent : ℕ → ℕ
code_sent code = if code == 503 then 500 else code

abbrev pub reason_sent : ℕ → List ℕ
reason_sent code = if code == 408 then codes "Request Timeout" else codes "Server Internal Error"

abbrev pub best_sent_by : ℕ → Option (List ℕ) → Work → Work
best_sent_by code None w = responded (code_sent code) (reason_sent code) w
best_sent_by code (Some text) w = if code == 503 then responded 500 (reason_sent 500) w else responding code text w

abbrev pub best_sent : Best → Work → StepCourse
best_sent best w = finish Handled (best_sent_by best.code best.text w)

-- ---- a round

abbrev pub rounds_over : Type 0
rounds_over = Best → Work → StepCourse

-- whether this round has a branch
abbrev pub has_branch : History → Bool
has_branch h = list_any (λ round. round == h.round) h.branches

-- all targets are branches now, or removed
abbrev pub all_launched : rounds_over → Work → StepCourse
all_launched over w = if has_branch w.state.history then finish Handled w else over (made 503) w

-- each target in its turn runs the branch block, where one is armed, over the request as it was when `t_relay` was called
abbrev pub launches : Proxy → rounds_over → Relay → Option ℕ → List Target → Work → StepCourse
launches p over relay block [] w = all_launched over w
launches p over relay None (t ∷ ts) w = launches p over relay None ts (launched (launch_to p relay t w) w)
launches p over relay (Some n) (t ∷ ts) w =
    ran p n w.origin.request (facts_at p w block.Branch w.origin.source relay.edits t.uri t.destination None) takes_avps w
    (λ w' f h. launches p over relay (Some n) ts (launched (unless_drop h (launch_to p (relay_in relay f) (target_in f) w')) w'))

abbrev pub in_next_round : Work → Work
in_next_round w = record w { state = record w.state { history = next_round w.state.history } }

-- each call of `t_relay` begins a round
abbrev pub relaying : Proxy → rounds_over → Relay → Work → StepCourse
relaying p over relay w = launches p over relay w.state.armed.branch (targets_of relay) (in_next_round w)

-- the transaction waits until it is continued
abbrev pub suspending : Work → Work
suspending w = record w {
  state = record w.state { suspension = w.state.label; suspension_due = Some (moment_after w.now w.state.final_timers.other) };
}

-- ---- the end of a round

-- what comes after a failure block: without an outcome the best response is sent
abbrev pub after_failure_by : Proxy → rounds_over → Best → Outcome → Work → StepCourse
after_failure_by p over best Undecided w = best_sent best w
after_failure_by p over best (Stateless response) w = best_sent best w
after_failure_by p over best (Answered response) w = finish Handled (responded response.code response.reason w)
after_failure_by p over best (Relayed relay) w = relaying p over relay w
after_failure_by p over best Suspended w = finish Handled (suspending w)

abbrev pub after_failure : Proxy → rounds_over → Best → Facts → Work → StepCourse
after_failure p over best f w = after_failure_by p over best f.outcome (all_responded f.responses w)

abbrev pub disarmed : Work → Work
disarmed w = record w { state = record w.state { armed = record w.state.armed { failure = None } } }

-- the block that is armed for a failure runs, after it is disarmed
abbrev pub failed_by : Proxy → rounds_over → Option ℕ → Best → Work → StepCourse
failed_by p over None best w = best_sent best w
failed_by p over (Some n) best w =
    ran p n w.origin.request (request_facts p (disarmed w) block.Failure (Some best.code)) takes (disarmed w)
    (λ w' f h. after_failure p over best f w')

-- A round has failed with this best response, and so many may follow. A cancelled transaction runs no failure block. Each round uses
-- up one of twelve branches, so none is left out.
abbrev pub over : Proxy → ℕ → Best → Work → StepCourse
over p zero best w = best_sent best w
over p (suc more) best w = if w.state.is_cancelled then finish Handled w else failed_by p (over p more) w.state.armed.failure best w

abbrev pub most_rounds : ℕ
most_rounds = 12

abbrev pub is_success : ℕ → Bool
is_success code = nat_le 200 code && nat_lt code 300

-- a 2xx came on some branch of the transaction: no best response is chosen any more
abbrev pub has_success : History → Bool
has_success h = list_any (λ r. is_success r.code) h.responses

abbrev pub round_failed : TxnState → Bool
round_failed s = has_failed s.history && not (has_success s.history)

-- a final response of 300 to 699 was counted for a branch: where it was the last one of the round, the best one is chosen
abbrev pub counted : Proxy → Work → StepCourse
counted p w = if round_failed w.state then over p most_rounds (best_response w.state) w else finish Handled w
