-- What a step does at each event of a transaction.
use Rattle.std.specs.Prelude.{ℕ, ◌==◌, Bool, true, false, not, List, [], Option, Some, None, slice_get, if◌then◌else◌, codes}
use Rattle.dialogue.specs.Course.{Ends, Asks}
use Rattle.outside_ports.specs.declared.port.Addr.{Addr}
use Rattle.claim_words.specs.declared.By.{By}
use Rattle.claim_words.specs.declared.By.TheVariants.{Continued, TimedOut, Cancelled}
use Rattle.claim_words.specs.declared.ClaimEnd.{ClaimEnd}
use Rattle.claim_words.specs.declared.ClaimEnd.TheVariants.{Won, Lost, Past, Unknown}
use Rattle.pv_values.specs.declared.block.BlockKind.TheVariants as block
use Rattle.pv_values.specs.declared.run.How.{How}
use Rattle.txn_client.specs.declared.machine.Client.{Client}
use Rattle.txn_client.specs.declared.machine.ClientEvent.TheVariants as client
use Rattle.txn_client.specs.declared.machine.ClientTimer.{ClientTimer}
use Rattle.txn_client.specs.After.{client_after}
use Rattle.txn_server.specs.declared.machine.ServerEvent.TheVariants as server
use Rattle.txn_server.specs.After.{server_after}
use Rattle.fork_core.specs.Decisions.{is_to_keep}
use Rattle.sip_build.specs.Hop.{cancel_text}
use Rattle.pv_table.specs.declared.facts.Facts.{Facts}
use Rattle.pv_table.specs.declared.facts.Outcome.{Outcome}
use Rattle.pv_table.specs.declared.facts.Outcome.TheVariants.{Undecided, Stateless, Answered, Relayed, Suspended}
use Rattle.pv_table.specs.declared.facts.Response.{Response}
use Rattle.host_meaning.specs.declared.ask.Asked.TheVariants as ask
use Rattle.host_meaning.specs.declared.ask.Heard.{Heard}
use Rattle.host_meaning.specs.declared.ask.Heard.TheVariants as heard
use Rattle.host_meaning.specs.Run.{Received}
use Rattle.host_meaning.specs.Transactions.{is_invite}
use Rattle.txn_dialogue.specs.declared.mark.Mark.{Mark}
use Rattle.txn_dialogue.specs.declared.mark.Mark.TheVariants.{Handled, Dropped}
use Rattle.txn_dialogue.specs.declared.mark.Cause.TheVariants as cause
use Rattle.txn_dialogue.specs.declared.happening.BranchTimer.{BranchTimer}
use Rattle.txn_dialogue.specs.declared.happening.BranchTimer.TheVariants as branch_timer
use Rattle.txn_dialogue.specs.declared.happening.SlotTimer.{SlotTimer}
use Rattle.txn_dialogue.specs.declared.happening.SlotTimer.TheVariants as slot_timer
use Rattle.txn_dialogue.specs.Slots.{Proxy, Origin, TxnBranch, Live, SeenVacant, SeenLive, first_state, reading}
use Rattle.txn_dialogue.specs.Timers.{timer_at}
use Rattle.txn_dialogue.specs.Sends.{Work, has_final, and_sent, sent_if, back_to, responded, all_responded, made_text, server_step, at_branch, client_step, is_proceeding, cancelling, cancelling_pending}
use Rattle.txn_dialogue.specs.Ending.{Done, StepCourse, finish, leave_off}
use Rattle.txn_dialogue.specs.Memory.{short_outside}
use Rattle.txn_dialogue.specs.Runs.{request_facts, takes, ran}
use Rattle.txn_dialogue.specs.Rounds.{made, over, most_rounds, relaying, suspending, is_drop}
use Rattle.txn_dialogue.specs.Replies.{counts, over_client, to_cancel_client}
use Rattle.txn_dialogue.specs.LooseRuns.{loosely_ran}

-- ---- a request

abbrev pub silent : How → Mark
silent h = Dropped (if is_drop h then cause.ScriptDrop else cause.ScriptSilent)

-- without an outcome a transaction is answered 500, unless it is cancelled; without a transaction there is nothing
abbrev pub after_silence : How → Work → StepCourse
after_silence h w =
    if not w.exists then leave_off (silent h) w
    else if w.state.is_cancelled then finish Handled w
    else finish Handled (responded 500 (codes "Server Internal Error") w)

-- a response without a transaction, which may have been made beside it
abbrev pub loosely_responded : Response → Work → Work
loosely_responded r w = record w { sends = and_sent (back_to w.origin) (made_text w.origin r.code r.reason) None w.sends }

abbrev pub after_stateless : Work → StepCourse
after_stateless w = if w.exists then finish Handled w else leave_off Handled w

-- what comes after a request block, or the route of a continuation
abbrev pub after_request_by : Proxy → Outcome → How → Work → StepCourse
after_request_by p Undecided h w = after_silence h w
after_request_by p (Stateless r) h w = after_stateless (loosely_responded r w)
after_request_by p (Answered r) h w = finish Handled (responded r.code r.reason w)
after_request_by p (Relayed relay) h w = relaying p (over p most_rounds) relay w
after_request_by p Suspended h w = finish Handled (suspending w)

abbrev pub after_request : Proxy → Facts → How → Work → StepCourse
after_request p f h w = after_request_by p f.outcome h (all_responded f.responses w)

abbrev pub request_ran : Proxy → ℕ → Work → StepCourse
request_ran p n w = ran p n w.origin.request (request_facts p w block.Request None) takes w (λ w' f h. after_request p f h w')

-- what a step begins with: a transaction that is there, and one that isn't yet
abbrev pub work_on : Live → ℕ → Work
work_on live now = record {
  origin = live.origin;
  state = live.state;
  base = live.state;
  blocks = live.blocks;
  first = false;
  exists = true;
  sends = [];
  continued = 0;
  is_continuation = false;
  now = now;
}

abbrev pub first_work : Proxy → Origin → ℕ → ℕ → Work
first_work p o blocks now = record {
  origin = o;
  state = first_state p o.request;
  base = first_state p o.request;
  blocks = blocks;
  first = true;
  exists = false;
  sends = [];
  continued = 0;
  is_continuation = false;
  now = now;
}

-- no block is free: 503
abbrev pub unavailable : Work → StepCourse
unavailable w = leave_off Handled (loosely_responded (record { code = 503; reason = codes "Service Unavailable" }) w)

abbrev pub second_block : Proxy → Origin → ℕ → Heard → StepCourse
second_block p o now (heard.Block true) = request_ran p p.script.request (first_work p o 2 now)
second_block p o now (heard.Block false) = unavailable (first_work p o 1 now)
second_block p o now h = short_outside (first_work p o 1 now)

abbrev pub first_block : Proxy → Origin → ℕ → Heard → StepCourse
first_block p o now (heard.Block true) = Asks ask.Block (λ h. second_block p o now h)
first_block p o now (heard.Block false) = unavailable (first_work p o 0 now)
first_block p o now h = short_outside (first_work p o 0 now)

-- two blocks are taken, for the request and for its response
abbrev pub opening : Proxy → ℕ → Option Received → Addr → ℕ → StepCourse
opening p generation None source now = Ends (Done (SeenVacant generation) Handled)
opening p generation (Some r) source now =
    Asks ask.Block (λ h. first_block p (record { generation = generation; request = r; source = source }) now h)

-- ---- the request again, and its ACK

abbrev pub copy : Work → StepCourse
copy w = finish Handled (server_step server.Copy w)

-- an ACK to a 2xx belongs to no transaction (RFC 6026, section 7.1)
abbrev pub ack : Proxy → List ℕ → Addr → Work → StepCourse
ack p text source w =
    if (server_after w.state.server server.Ack w.now).1.loose_ack
    then loosely_ran p (reading text) source (server_step server.Ack w)
    else finish Handled (server_step server.Ack w)

-- ---- a continuation

-- the suspension is over
abbrev pub unsuspended : Work → Work
unsuspended w = record w { state = record w.state { suspension = None; suspension_due = None; is_owed = false } }

abbrev pub continuing : Work → Work
continuing w = record w { is_continuation = true }

abbrev pub continue_by : Proxy → ℕ → ℕ → Live → Option ℕ → ℕ → StepCourse
continue_by p serial route live None now = Ends (Done (SeenLive live) Handled)
continue_by p serial route live (Some waits) now =
    if waits == serial then request_ran p route (continuing (unsuspended (work_on live now))) else Ends (Done (SeenLive live) Handled)

-- ---- a cancellation

abbrev pub cancelled : Bool → Work → Work
cancelled owed w = record w { state = record w.state { is_cancelled = true; is_owed = owed } }

abbrev pub marked_cancelled : Bool → Work → StepCourse
marked_cancelled owed w = finish Handled (cancelling_pending (cancelled owed w))

abbrev pub is_continued : By → Bool
is_continued Continued = true
is_continued TimedOut = false
is_continued Cancelled = false

-- the suspension ends by the CANCEL, or it ended already and the transaction is marked
abbrev pub cancel_claimed : Work → ClaimEnd → StepCourse
cancel_claimed w (Won place) = finish Handled (responded 487 (codes "Request Terminated") (unsuspended w))
cancel_claimed w (Lost by) = marked_cancelled (is_continued by) w
cancel_claimed w (Past latest) = finish Handled w
cancel_claimed w Unknown = finish Handled w

abbrev pub cancel_heard : Work → Heard → StepCourse
cancel_heard w (heard.Claim end) = cancel_claimed w end
cancel_heard w h = short_outside w

abbrev pub cancel_by : Proxy → Option ℕ → Work → StepCourse
cancel_by p (Some serial) w = Asks (ask.Claim p.number serial Cancelled) (λ h. cancel_heard w h)
cancel_by p None w = if has_final w.state then finish Handled w else marked_cancelled w.state.is_owed w

-- ---- timers

-- S: the suspension ends by its timer, and the failure block runs with 408
abbrev pub suspension_claimed : Proxy → Work → ClaimEnd → StepCourse
suspension_claimed p w (Won place) = over p most_rounds (made 408) (unsuspended w)
suspension_claimed p w _ = finish Handled w

abbrev pub suspension_heard : Proxy → Work → Heard → StepCourse
suspension_heard p w (heard.Claim end) = suspension_claimed p w end
suspension_heard p w h = short_outside w

-- it is disarmed, whoever wins
abbrev pub undue : Work → Work
undue w = record w { state = record w.state { suspension_due = None } }

abbrev pub suspension_fired : Proxy → Option ℕ → Work → StepCourse
suspension_fired p None w = finish Handled w
suspension_fired p (Some serial) w = Asks (ask.Claim p.number serial TimedOut) (λ h. suspension_heard p w h)

-- a timer of a client: where it reports that no response came, 408 is counted
abbrev pub client_fired : Proxy → ℕ → TxnBranch → ClientTimer → Work → StepCourse
client_fired p n b t w =
    if (client_after b.client (client.Timer t) w.now).1.timeout
    then counts p n 408 (over_client n (client_step n b (client.Timer t) [] w))
    else finish Handled (client_step n b (client.Timer t) [] w)

-- a timer of the client of a CANCEL
abbrev pub cancel_fired : ℕ → TxnBranch → ClientTimer → Option Client → Work → StepCourse
cancel_fired n b t None w = finish Handled w
cancel_fired n b t (Some c) w =
    let made = client_after c (client.Timer t) w.now in
    finish Handled (record (to_cancel_client n c (client.Timer t) w) {
      sends = sent_if made.1.send b.to (cancel_text b.request.bytes b.request.message) None w.sends;
    })

-- branches of other requests than INVITE aren't cancelled (RFC 3261, section 9.1)
abbrev pub invite_cancelling : Bool → ℕ → Work → Work
invite_cancelling true n w = cancelling n w
invite_cancelling false n w = w

-- `fr` counts as 408: a client without a provisional response is over; else the branch is cancelled, and its client lives on
abbrev pub final_fired : Proxy → ℕ → TxnBranch → Work → StepCourse
final_fired p n b w =
    if is_proceeding b.client.state then counts p n 408 (invite_cancelling (is_invite w.origin.request) n w) else counts p n 408 (over_client n w)

-- Q: the client is over, and where the branch has no final response 408 is counted
abbrev pub quit_fired : Proxy → ℕ → Work → StepCourse
quit_fired p n w = if is_to_keep w.state.history n 408 then counts p n 408 (over_client n w) else finish Handled (over_client n w)

-- by its timer: X counts as 503, and Q as 408 where the branch has no final response
abbrev pub branch_fired : Proxy → ℕ → BranchTimer → TxnBranch → Work → StepCourse
branch_fired p n branch_timer.Unsent b w = counts p n 503 (over_client n (at_branch n (λ x. record x { unsent_due = None }) w))
branch_fired p n (branch_timer.Client t) b w = client_fired p n b t w
branch_fired p n branch_timer.Final b w = final_fired p n b (at_branch n (λ x. record x { final_due = None }) w)
branch_fired p n branch_timer.Quit b w = quit_fired p n (at_branch n (λ x. record x { quit_due = None }) w)
branch_fired p n (branch_timer.Cancel t) b w = cancel_fired n b t b.cancel w

abbrev pub at_its_branch : Proxy → ℕ → BranchTimer → Option TxnBranch → Work → StepCourse
at_its_branch p n t None w = finish Handled w
at_its_branch p n t (Some b) w = branch_fired p n t b w

abbrev pub fired : Proxy → Option SlotTimer → Work → StepCourse
fired p None w = finish Handled w
fired p (Some slot_timer.Suspension) w = suspension_fired p w.state.suspension (undue w)
fired p (Some (slot_timer.Server t)) w = finish Handled (server_step (server.Timer t) w)
fired p (Some (slot_timer.Branch n t)) w = at_its_branch p n t (slice_get w.state.branches n) w

abbrev pub timer : Proxy → Work → StepCourse
timer p w = fired p (timer_at w.now w.state) w
