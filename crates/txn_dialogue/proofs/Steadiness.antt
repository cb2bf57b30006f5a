-- Steps that run no block are steady.
use Rattle.std.proofs.Common.{◌≡◌, ℕ, zero, suc, Bool, true, false, not, List, [], ◌∷◌, ◌++◌, Option, Some, None, refl, sym, ◌∙◌, subst}
use Rattle.std.proofs.lemmas.Bool.{false≢true}
use Rattle.std.specs.Prelude.{if◌then◌else◌, nat_le, slice_get, ◌==◌, codes}
use Rattle.std.specs.Str.{bytes_eq}
use Rattle.outside_ports.specs.declared.port.Addr.{Addr}
use Rattle.claim_words.specs.declared.ClaimEnd.{ClaimEnd}
use Rattle.claim_words.specs.declared.ClaimEnd.TheVariants.{Won, Lost, Past, Unknown}
use Rattle.claim_words.specs.declared.By.TheVariants.{TimedOut, Cancelled}
use Rattle.msg_edits.specs.declared.parts.Edit.{Edit}
use Rattle.fork_core.specs.Decisions.{is_to_keep, to_cancel}
use Rattle.sip_build.specs.Relayed.{relayed_text}
use Rattle.sip_build.specs.Hop.{ack_text, cancel_text}
use Rattle.sip_keys.specs.Keys.{method_in}
use Rattle.fork_core.specs.declared.context.Forwarding.{Forwarding}
use Rattle.fork_core.specs.declared.context.Forwarding.TheVariants.{Now, Kept, Nothing}
use Rattle.txn_client.specs.declared.machine.Client.{Client}
use Rattle.txn_client.specs.declared.machine.ClientTimer.{ClientTimer}
use Rattle.txn_client.specs.declared.machine.ClientEvent.TheVariants as client
use Rattle.txn_client.specs.After.{client_after}
use Rattle.txn_server.specs.declared.machine.ServerEvent.TheVariants as server
use Rattle.txn_server.specs.After.{server_after}
use Rattle.host_meaning.specs.declared.ask.Asked.TheVariants as ask
use Rattle.host_meaning.specs.declared.ask.Heard.{Heard}
use Rattle.host_meaning.specs.declared.ask.Heard.TheVariants as heard
use Rattle.host_meaning.specs.Run.{Received}
use Rattle.host_meaning.specs.Transactions.{is_invite, status_of}
use Rattle.dialogue.specs.Course.{Ends, Asks, Takes}
use Rattle.txn_dialogue.specs.declared.mark.Mark.{Mark}
use Rattle.txn_dialogue.specs.declared.mark.Mark.TheVariants.{Handled, Dropped}
use Rattle.txn_dialogue.specs.declared.mark.Cause.TheVariants as cause
use Rattle.txn_dialogue.specs.declared.happening.Happening.{Happening}
use Rattle.txn_dialogue.specs.LooseRuns.{loosely_ran}
use Rattle.txn_dialogue.specs.declared.happening.Happening.TheVariants.{Copy, Ack, Reply, Timer, Cancel}
use Rattle.txn_dialogue.specs.declared.happening.BranchTimer.{BranchTimer}
use Rattle.txn_dialogue.specs.declared.happening.BranchTimer.TheVariants as branch_timer
use Rattle.txn_dialogue.specs.declared.happening.SlotTimer.{SlotTimer}
use Rattle.txn_dialogue.specs.declared.happening.SlotTimer.TheVariants as slot_timer
use Rattle.txn_dialogue.specs.Slots.{Proxy, TxnBranch, TxnState, Live, Seen, SeenVacant, SeenLive, generation_of, reading}
use Rattle.txn_dialogue.specs.Timers.{timer_at}
use Rattle.txn_dialogue.specs.Sends.{Sent, Work, kept_of, sent_if, responded, server_step, cancel_ripe, cancelling_pending, settled, has_final, is_proceeding, cancelling, all_cancelling, client_step, at_branch}
use Rattle.txn_dialogue.specs.Ending.{StepCourse, Done, Aborted, leaves, gives, sending, after_send, closing, close_of, finish, is_over}
use Rattle.txn_dialogue.specs.Rounds.{Best, made, best_response, best_sent_by, failed_by, over, round_failed, counted}
use Rattle.txn_dialogue.specs.Replies.{BranchReply, class_event, forwarded_now, forwarding_at, timed, to_cancel_client, stray, response_method, kept_for, kept_response, noted, forwarded_by, listed, replying, came_up, to_client, to_branch, to_cancel_of, reply_by_code, reply_read, counts, counted_by, over_client}
use Rattle.txn_dialogue.specs.Events.{work_on, cancelled, marked_cancelled, is_continued, cancel_claimed, cancel_heard, cancel_by, suspension_claimed, suspension_heard, suspension_fired, undue, unsuspended, client_fired, cancel_fired, invite_cancelling, final_fired, quit_fired, branch_fired, at_its_branch, fired}
use Rattle.txn_dialogue.proofs.Whole.{step_whole, whole_short}
use Rattle.txn_dialogue.specs.Dialogue.{at_event, dialogue}
use Rattle.txn_dialogue.specs.Shortage.{fits_ask, AbortsShort, is_aborted}
use Rattle.txn_dialogue.specs.Steady.{TakesNothing, failure_to_run, Steady, IsHeldAck, HasNoReplyBlock, HasNoFailureBlock}

if_steady : (b : Bool) (x y : StepCourse) → Steady x → Steady y → Steady (if b then x else y)
if_steady true x y p q = p
if_steady false x y p q = q

-- ---- the end of a step

leaves_steady : (stays : Bool) (mark : Mark) (w : Work) (s : TxnState) → Steady (leaves (close_of stays mark w) s)
leaves_steady true mark w s = λ h f. tt
leaves_steady false mark w s = λ h f. λ h' f'. tt

gives_steady : (n : ℕ) (c : StepCourse) → Steady c → Steady (gives n c)
gives_steady zero c p = p
gives_steady (suc n) c p = λ h f. gives_steady n c p

sending_steady : (now : ℕ) (ds : List Sent) (s : TxnState) (after : TxnState → StepCourse) → ((t : TxnState) → Steady (after t)) → Steady (sending now ds s after)
sending_steady now [] s after p = p s
sending_steady now (d ∷ ds) s after p = λ h f. sending_steady now ds (after_send now d h s) after p

closing_steady : (stays : Bool) (mark : Mark) (w : Work) → Steady (closing (close_of stays mark w))
closing_steady stays mark w =
    sending_steady w.now w.sends w.state (λ s. gives (close_of stays mark w).back (leaves (close_of stays mark w) s))
    (λ t. gives_steady (close_of stays mark w).back (leaves (close_of stays mark w) t) (leaves_steady stays mark w t))

pub finish_steady : (mark : Mark) (w : Work) → Steady (finish mark w)
finish_steady mark w = closing_steady (not (is_over (settled w).state)) mark (settled w)

-- ---- the end of a round without a failure block

over_so : (p : Proxy) (more : ℕ) (best : Best) (w : Work) (cancelled : Bool) (armed : Option ℕ) → (if cancelled then None else armed) ≡ None
    → Steady (if cancelled then finish Handled w else failed_by p (over p more) armed best w)
over_so p more best w true armed e = finish_steady Handled w
over_so p more best w false armed e =
    subst (λ o. Steady (failed_by p (over p more) o best w)) (sym e) (finish_steady Handled (best_sent_by best.code best.text w))

over_steady : (p : Proxy) (more : ℕ) (best : Best) (w : Work) → failure_to_run w.state ≡ None → Steady (over p (suc more) best w)
over_steady p more best w e = over_so p more best w w.state.is_cancelled w.state.armed.failure e

counted_steady : (p : Proxy) (w : Work) → failure_to_run w.state ≡ None → Steady (counted p w)
counted_steady p w e =
    if_steady (round_failed w.state) (over p 12 (best_response w.state) w) (finish Handled w) (over_steady p 11 (best_response w.state) w e) (finish_steady Handled w)

all_armed : (ns : List ℕ) (w : Work) → failure_to_run (all_cancelling ns w).state ≡ failure_to_run w.state
all_armed [] w = refl
all_armed (n ∷ ns) w = all_armed ns (cancelling n w)

if_armed : (b : Bool) (x y : Work) (o : Option ℕ) → failure_to_run x.state ≡ o → failure_to_run y.state ≡ o → failure_to_run (if b then x else y).state ≡ o
if_armed true x y o p q = p
if_armed false x y o p q = q

kept_armed : (n code : ℕ) (text : Option (List ℕ)) (w : Work) → failure_to_run (kept_response n code text w).state ≡ failure_to_run w.state
kept_armed n code text w = if_armed (nat_le 600 code) (cancelling_pending (kept_for n text w)) (kept_for n text w) (failure_to_run w.state) (all_armed (to_cancel (kept_for n text w).state.history) (kept_for n text w)) refl

counted_by_steady : (p : Proxy) (keeps : Bool) (n code : ℕ) (w : Work) → failure_to_run w.state ≡ None → Steady (counted_by p keeps n code w)
counted_by_steady p true n code w e = counted_steady p (kept_response n code None w) (kept_armed n code None w ∙ e)
counted_by_steady p false n code w e = finish_steady Handled w

counts_steady : (p : Proxy) (n code : ℕ) (w : Work) → failure_to_run w.state ≡ None → Steady (counts p n code w)
counts_steady p n code w e = counted_by_steady p (is_to_keep w.state.history n code) n code (noted n code w) e

-- ---- a cancellation

claimed_steady : (w : Work) (end : ClaimEnd) → Steady (cancel_claimed w end)
claimed_steady w (Won place) = finish_steady Handled (responded 487 (codes "Request Terminated") (unsuspended w))
claimed_steady w (Lost by) = finish_steady Handled (cancelling_pending (cancelled (is_continued by) w))
claimed_steady w (Past latest) = finish_steady Handled w
claimed_steady w Unknown = finish_steady Handled w

cancel_heard_steady : (slot serial : ℕ) (w : Work) (h : Heard) → fits_ask (ask.Claim slot serial Cancelled) h ≡ true → Steady (cancel_heard w h)
cancel_heard_steady slot serial w (heard.Claim end) f = claimed_steady w end
cancel_heard_steady slot serial w h f = absurd (false≢true f)

cancel_steady : (p : Proxy) (o : Option ℕ) (w : Work) → Steady (cancel_by p o w)
cancel_steady p (Some serial) w = λ h f. cancel_heard_steady p.number serial w h f
cancel_steady p None w =
    if_steady (has_final w.state) (finish Handled w) (marked_cancelled w.state.is_owed w) (finish_steady Handled w)
    (finish_steady Handled (cancelling_pending (cancelled w.state.is_owed w)))

-- ---- timers

timed_out_steady : (p : Proxy) (w : Work) (end : ClaimEnd) → failure_to_run w.state ≡ None → Steady (suspension_claimed p w end)
timed_out_steady p w (Won place) e = over_steady p 11 (made 408) (unsuspended w) e
timed_out_steady p w (Lost by) e = finish_steady Handled w
timed_out_steady p w (Past latest) e = finish_steady Handled w
timed_out_steady p w Unknown e = finish_steady Handled w

suspension_heard_steady : (p : Proxy) (serial : ℕ) (w : Work) (h : Heard) → failure_to_run w.state ≡ None → fits_ask (ask.Claim p.number serial TimedOut) h ≡ true → Steady (suspension_heard p w h)
suspension_heard_steady p serial w (heard.Claim end) e f = timed_out_steady p w end e
suspension_heard_steady p serial w h e f = absurd (false≢true f)

suspension_steady : (p : Proxy) (o : Option ℕ) (w : Work) → failure_to_run w.state ≡ None → Steady (suspension_fired p o w)
suspension_steady p None w e = finish_steady Handled w
suspension_steady p (Some serial) w e = λ h f. suspension_heard_steady p serial w h e f

client_fired_steady : (p : Proxy) (n : ℕ) (b : TxnBranch) (t : ClientTimer) (w : Work) → failure_to_run w.state ≡ None → Steady (client_fired p n b t w)
client_fired_steady p n b t w e =
    if_steady (client_after b.client (client.Timer t) w.now).1.timeout
    (counts p n 408 (over_client n (client_step n b (client.Timer t) [] w))) (finish Handled (client_step n b (client.Timer t) [] w))
    (counts_steady p n 408 (over_client n (client_step n b (client.Timer t) [] w)) e) (finish_steady Handled (client_step n b (client.Timer t) [] w))

cancel_fired_steady : (n : ℕ) (b : TxnBranch) (t : ClientTimer) (o : Option Client) (w : Work) → Steady (cancel_fired n b t o w)
cancel_fired_steady n b t None w = finish_steady Handled w
cancel_fired_steady n b t (Some c) w = finish_steady Handled (record (to_cancel_client n c (client.Timer t) w) {
  sends = sent_if (client_after c (client.Timer t) w.now).1.send b.to (cancel_text b.request.bytes b.request.message) None w.sends;
})

invite_armed : (b : Bool) (n : ℕ) (w : Work) → failure_to_run (invite_cancelling b n w).state ≡ failure_to_run w.state
invite_armed true n w = refl
invite_armed false n w = refl

final_fired_steady : (p : Proxy) (n : ℕ) (b : TxnBranch) (w : Work) → failure_to_run w.state ≡ None → Steady (final_fired p n b w)
final_fired_steady p n b w e =
    if_steady (is_proceeding b.client.state) (counts p n 408 (invite_cancelling (is_invite w.origin.request) n w)) (counts p n 408 (over_client n w))
    (counts_steady p n 408 (invite_cancelling (is_invite w.origin.request) n w) (invite_armed (is_invite w.origin.request) n w ∙ e))
    (counts_steady p n 408 (over_client n w) e)

quit_fired_steady : (p : Proxy) (n : ℕ) (w : Work) → failure_to_run w.state ≡ None → Steady (quit_fired p n w)
quit_fired_steady p n w e = if_steady (is_to_keep w.state.history n 408) (counts p n 408 (over_client n w)) (finish Handled (over_client n w)) (counts_steady p n 408 (over_client n w) e) (finish_steady Handled (over_client n w))

branch_fired_steady : (p : Proxy) (n : ℕ) (t : BranchTimer) (b : TxnBranch) (w : Work) → failure_to_run w.state ≡ None → Steady (branch_fired p n t b w)
branch_fired_steady p n branch_timer.Unsent b w e = counts_steady p n 503 (over_client n (at_branch n (λ x. record x { unsent_due = None }) w)) e
branch_fired_steady p n (branch_timer.Client t) b w e = client_fired_steady p n b t w e
branch_fired_steady p n branch_timer.Final b w e = final_fired_steady p n b (at_branch n (λ x. record x { final_due = None }) w) e
branch_fired_steady p n branch_timer.Quit b w e = quit_fired_steady p n (at_branch n (λ x. record x { quit_due = None }) w) e
branch_fired_steady p n (branch_timer.Cancel t) b w e = cancel_fired_steady n b t b.cancel w

at_branch_steady : (p : Proxy) (n : ℕ) (t : BranchTimer) (o : Option TxnBranch) (w : Work) → failure_to_run w.state ≡ None → Steady (at_its_branch p n t o w)
at_branch_steady p n t None w e = finish_steady Handled w
at_branch_steady p n t (Some b) w e = branch_fired_steady p n t b w e

fired_steady : (p : Proxy) (o : Option SlotTimer) (w : Work) → failure_to_run w.state ≡ None → Steady (fired p o w)
fired_steady p None w e = finish_steady Handled w
fired_steady p (Some slot_timer.Suspension) w e = suspension_steady p w.state.suspension (undue w) e
fired_steady p (Some (slot_timer.Server t)) w e = finish_steady Handled (server_step (server.Timer t) w)
fired_steady p (Some (slot_timer.Branch n t)) w e = at_branch_steady p n t (slice_get w.state.branches n) w e

-- ---- responses

forwarded_steady : (p : Proxy) (o : Forwarding) (n code : ℕ) (text : List ℕ) (w : Work) → failure_to_run w.state ≡ None → Steady (forwarded_by p o n code text w)
forwarded_steady p Now n code text w e = finish_steady Handled (cancel_ripe n (forwarded_now code text w))
forwarded_steady p Kept n code text w e = counted_steady p (kept_response n code (Some (kept_of text)) w) (kept_armed n code (Some (kept_of text)) w ∙ e)
forwarded_steady p Nothing n code text w e = finish_steady Handled (cancel_ripe n w)

replying_steady : (p : Proxy) (r : BranchReply) (script armed : Option ℕ) (edits : List Edit) (w : Work) → script ≡ None → armed ≡ None → failure_to_run w.state ≡ None
    → Steady (replying p r (listed script ++ listed armed) edits w)
replying_steady p r script armed edits w s a e =
    subst (λ o. Steady (replying p r (listed o ++ listed armed) edits w)) (sym s)
    (subst (λ o. Steady (replying p r (listed None ++ listed o) edits w)) (sym a) (forwarded_steady p (forwarding_at w.state r.branch r.code) r.branch r.code (relayed_text r.response.bytes r.response.message edits) (noted r.branch r.code w) e))

came_up_steady : (p : Proxy) (up : Bool) (r : BranchReply) (w : Work) → p.script.reply ≡ None → w.state.armed.reply ≡ None → failure_to_run w.state ≡ None → Steady (came_up p up r w)
came_up_steady p true r w s a e = replying_steady p r p.script.reply w.state.armed.reply [] (timed r w) s a e
came_up_steady p false r w s a e = finish_steady Handled w

cancel_of_steady : (r : BranchReply) (o : Option Client) (w : Work) → Steady (to_cancel_of r o w)
cancel_of_steady r None w = finish_steady (Dropped cause.StrayReply) w
cancel_of_steady r (Some c) w = finish_steady Handled (to_cancel_client r.branch c (class_event r.code) w)

to_branch_steady : (p : Proxy) (r : BranchReply) (o : Option TxnBranch) (w : Work) → p.script.reply ≡ None → w.state.armed.reply ≡ None → failure_to_run w.state ≡ None → Steady (to_branch p r o w)
to_branch_steady p r None w s a e = finish_steady (Dropped cause.StrayReply) w
to_branch_steady p r (Some b) w s a e =
    if_steady (bytes_eq (response_method r.response) (codes "CANCEL")) (to_cancel_of r b.cancel w)
    (if bytes_eq (response_method r.response) (method_in w.origin.request.bytes w.origin.request.message.start) then to_client p r b w else stray w)
    (cancel_of_steady r b.cancel w)
    (if_steady (bytes_eq (response_method r.response) (method_in w.origin.request.bytes w.origin.request.message.start)) (to_client p r b w) (stray w)
    (came_up_steady p (client_after b.client (class_event r.code) w.now).1.up r
    (client_step r.branch b (class_event r.code) (ack_text b.request.bytes b.request.message r.response.bytes r.response.message) w) s a e)
    (finish_steady (Dropped cause.StrayReply) w))

by_code_steady : (p : Proxy) (n : ℕ) (r : Received) (source : Addr) (o : Option ℕ) (w : Work) → p.script.reply ≡ None → w.state.armed.reply ≡ None → failure_to_run w.state ≡ None
    → Steady (reply_by_code p n r source o w)
by_code_steady p n r source None w s a e = finish_steady (Dropped cause.StrayReply) w
by_code_steady p n r source (Some code) w s a e = to_branch_steady p (record { branch = n; response = r; code = code; source = source }) (slice_get w.state.branches n) w s a e

read_steady : (p : Proxy) (n : ℕ) (o : Option Received) (source : Addr) (w : Work) → p.script.reply ≡ None → w.state.armed.reply ≡ None → failure_to_run w.state ≡ None
    → Steady (reply_read p n o source w)
read_steady p n None source w s a e = finish_steady (Dropped cause.StrayReply) w
read_steady p n (Some r) source w s a e = by_code_steady p n r source (status_of r.message.start) w s a e

-- ---- the dialogue

-- under another generation nothing is done
by_generation : (p : Proxy) (seen : Seen) (generation : ℕ) (what : Happening) (now : ℕ) → Steady (at_event p seen what now) → Steady (dialogue p seen generation what now)
by_generation p seen generation what now q =
    if_steady (generation_of seen == generation) (at_event p seen what now) (Ends (Done seen (Dropped (cause.Ended generation (generation_of seen))))) q tt

pub copy_is_steady : (p : Proxy) (seen : Seen) (generation now : ℕ) → Steady (dialogue p seen generation Copy now)
copy_is_steady p (SeenVacant g) generation now = by_generation p (SeenVacant g) generation Copy now tt
copy_is_steady p (SeenLive live) generation now =
    by_generation p (SeenLive live) generation Copy now (finish_steady Handled (server_step server.Copy (work_on live now)))

pub cancel_is_steady : (p : Proxy) (seen : Seen) (generation now : ℕ) → Steady (dialogue p seen generation Cancel now)
cancel_is_steady p (SeenVacant g) generation now = by_generation p (SeenVacant g) generation Cancel now tt
cancel_is_steady p (SeenLive live) generation now =
    by_generation p (SeenLive live) generation Cancel now (cancel_steady p live.state.suspension (work_on live now))

held_steady : (b : Bool) (x y : StepCourse) → b ≡ false → Steady y → Steady (if b then x else y)
held_steady b x y e q = subst (λ (b : Bool). Steady (if b then x else y)) (sym e) q

pub ack_is_steady : (p : Proxy) (live : Live) (generation : ℕ) (text : List ℕ) (source : Addr) (now : ℕ) → IsHeldAck live now
    → Steady (dialogue p (SeenLive live) generation (Ack text source) now)
ack_is_steady p live generation text source now e =
    by_generation p (SeenLive live) generation (Ack text source) now
    (held_steady (server_after live.state.server server.Ack now).1.loose_ack
    (loosely_ran p (reading text) source (server_step server.Ack (work_on live now))) (finish Handled (server_step server.Ack (work_on live now)))
    e (finish_steady Handled (server_step server.Ack (work_on live now))))

pub timer_is_steady : (p : Proxy) (live : Live) (generation now : ℕ) → HasNoFailureBlock live → Steady (dialogue p (SeenLive live) generation Timer now)
timer_is_steady p live generation now e = by_generation p (SeenLive live) generation Timer now (fired_steady p (timer_at now live.state) (work_on live now) e)

pub reply_is_steady : (p : Proxy) (live : Live) (generation branch : ℕ) (text : List ℕ) (source : Addr) (now : ℕ) → HasNoReplyBlock p live → HasNoFailureBlock live
    → Steady (dialogue p (SeenLive live) generation (Reply branch text source) now)
reply_is_steady p live generation branch text source now r e =
    by_generation p (SeenLive live) generation (Reply branch text source) now (read_steady p branch (reading text) source (work_on live now) r.0 r.1 e)

-- ---- a course that takes nothing

steady_of : (c : StepCourse) → TakesNothing c → AbortsShort is_aborted c false → Steady c
steady_of (Ends (Done slot mark)) t p = tt
steady_of (Ends (Aborted slot)) t p = absurd (false≢true (p refl))
steady_of (Asks a next) t p = λ h f. steady_of (next h) (t h) (subst (λ (b : Bool). AbortsShort is_aborted (next h) (if b then false else true)) f (p h))
steady_of (Takes short on) t p = absurd t

pub runless_is_steady : (p : Proxy) (seen : Seen) (generation : ℕ) (what : Happening) (now : ℕ) → TakesNothing (dialogue p seen generation what now)
    → Steady (dialogue p seen generation what now)
runless_is_steady p seen generation what now t =
    steady_of (dialogue p seen generation what now) t (whole_short seen (dialogue p seen generation what now) (step_whole p seen generation what now))
