-- Responses that come on a branch (RFC 3261, sections 16.7 and 17.1), and those that are counted for it.
use Rattle.std.specs.Prelude.{ℕ, Bool, true, false, not, ◌&&◌, List, [], ◌∷◌, ◌++◌, Option, Some, None, nat_le, nat_lt, slice_get, if◌then◌else◌, codes}
use Rattle.std.specs.Str.{bytes_eq}
use Rattle.outside_ports.specs.declared.port.Addr.{Addr}
use Rattle.msg_edits.specs.declared.parts.Edit.{Edit}
use Rattle.sip_keys.specs.Keys.{method_in}
use Rattle.sip_build.specs.Hop.{ack_text}
use Rattle.sip_build.specs.Relayed.{relayed_text}
use Rattle.txn_moments.specs.Moments.{moment_after}
use Rattle.txn_client.specs.declared.machine.Client.{Client}
use Rattle.txn_client.specs.declared.machine.ClientEvent.{ClientEvent}
use Rattle.txn_client.specs.declared.machine.ClientEvent.TheVariants as client
use Rattle.txn_client.specs.Rows.{client_over}
use Rattle.txn_client.specs.After.{client_after}
use Rattle.fork_core.specs.Responses.{with_response}
use Rattle.fork_core.specs.Decisions.{forwarding_of, is_to_keep}
use Rattle.fork_core.specs.declared.context.Forwarding.{Forwarding}
use Rattle.fork_core.specs.declared.context.Forwarding.TheVariants.{Now, Kept, Nothing}
use Rattle.pv_values.specs.declared.block.BlockKind.TheVariants as block
use Rattle.pv_table.specs.UriParts.{bytes_at}
use Rattle.host_meaning.specs.Run.{Received}
use Rattle.host_meaning.specs.Transactions.{is_invite, status_of}
use Rattle.txn_dialogue.specs.declared.mark.Mark.TheVariants.{Handled, Dropped}
use Rattle.txn_dialogue.specs.declared.mark.Cause.TheVariants as cause
use Rattle.txn_dialogue.specs.Slots.{Proxy, TxnBranch, TxnState, reading}
use Rattle.txn_dialogue.specs.Sends.{Work, has_final, kept_of, at_branch, client_step, responding, cancel_ripe, cancelling_pending}
use Rattle.txn_dialogue.specs.Ending.{StepCourse, finish}
use Rattle.txn_dialogue.specs.Runs.{facts_at, takes_avps, ran}
use Rattle.txn_dialogue.specs.Rounds.{is_drop, is_success, counted}

-- a response that came: on which branch, as it reads, its code, and where it came from
pub record BranchReply : Type 0 where
  pub branch : ℕ
  pub response : Received
  pub code : ℕ
  pub source : Addr

abbrev pub is_provisional : ℕ → Bool
is_provisional code = nat_lt code 200

abbrev pub class_event : ℕ → ClientEvent
class_event code =
    if nat_lt code 200 then client.Provisional
    else if nat_lt code 300 then client.Success
    else client.Failure

-- ---- the context

-- the branch has a response more, which was received or is counted for it
abbrev pub noted : ℕ → ℕ → Work → Work
noted n code w = record w { state = record w.state { history = with_response w.state.history n code (has_final w.state) } }

abbrev pub kept_for : ℕ → Option (List ℕ) → Work → Work
kept_for n text w = at_branch n (λ b. record b { kept = text }) w

-- a 6xx cancels every branch that has no final response
abbrev pub kept_response : ℕ → ℕ → Option (List ℕ) → Work → Work
kept_response n code text w = if nat_le 600 code then cancelling_pending (kept_for n text w) else kept_for n text w

-- a response goes on at once; a 2xx cancels every branch that has no final response
abbrev pub forwarded_now : ℕ → List ℕ → Work → Work
forwarded_now code text w = if is_success code then cancelling_pending (responding code text w) else responding code text w

-- What becomes of a response, by the context as it was before it: it goes on at once, it is kept, or nothing
abbrev pub forwarded_by : Proxy → Forwarding → ℕ → ℕ → List ℕ → Work → StepCourse
forwarded_by p Now n code text w = finish Handled (cancel_ripe n (forwarded_now code text w))
forwarded_by p Kept n code text w = counted p (kept_response n code (Some (kept_of text)) w)
forwarded_by p Nothing n code text w = finish Handled (cancel_ripe n w)

abbrev pub forwarding_at : TxnState → ℕ → ℕ → Forwarding
forwarding_at s n code = forwarding_of s.history n code (has_final s)

abbrev pub passed_up : Proxy → BranchReply → List Edit → Work → StepCourse
passed_up p r edits w =
    forwarded_by p (forwarding_at w.state r.branch r.code) r.branch r.code (relayed_text r.response.bytes r.response.message edits)
    (noted r.branch r.code w)

-- ---- reply blocks

-- a provisional response that a block dropped isn't forwarded; all else goes on
abbrev pub dropped : BranchReply → Work → StepCourse
dropped r w = finish (Dropped cause.ScriptDrop) (cancel_ripe r.branch w)

-- `reply_route`, then the block that is armed
abbrev pub listed : Option ℕ → List ℕ
listed None = []
listed (Some n) = n ∷ []

-- each block runs over the response with the edits of the one before it
abbrev pub replying : Proxy → BranchReply → List ℕ → List Edit → Work → StepCourse
replying p r [] edits w = passed_up p r edits w
replying p r (n ∷ ns) edits w =
    ran p n r.response (facts_at p w block.Reply r.source edits w.state.uri w.state.destination None) takes_avps w
    (λ w' f h. if is_drop h && is_provisional r.code then dropped r w' else replying p r ns f.edits w')

-- ---- a response comes

-- `fr` runs anew at each provisional response to an INVITE, and stops at a final one
abbrev pub final_due_after : Bool → ℕ → ℕ → Option ℕ → Option ℕ
final_due_after invite code due None = None
final_due_after invite code due (Some old) = if not (is_provisional code) then None else if invite then Some due else Some old

abbrev pub timed : BranchReply → Work → Work
timed r w =
    at_branch r.branch (λ b. record b { final_due = final_due_after (is_invite w.origin.request) r.code (moment_after w.now w.state.final_timers.invite) b.final_due }) w

-- a response that the client passes up runs the reply blocks; any other is handled by the client alone
abbrev pub came_up : Proxy → Bool → BranchReply → Work → StepCourse
came_up p true r w = replying p r (listed p.script.reply ++ listed w.state.armed.reply) [] (timed r w)
came_up p false r w = finish Handled w

-- an ACK goes out before the response is passed up
abbrev pub to_client : Proxy → BranchReply → TxnBranch → Work → StepCourse
to_client p r b w =
    came_up p (client_after b.client (class_event r.code) w.now).1.up r
    (client_step r.branch b (class_event r.code) (ack_text b.request.bytes b.request.message r.response.bytes r.response.message) w)

-- a response to the CANCEL of a branch steps its client alone
abbrev pub to_cancel_client : ℕ → Client → ClientEvent → Work → Work
to_cancel_client n c event w = at_branch n (λ b. record b { cancel = Some (client_after c event w.now).0 }) w

abbrev pub stray : Work → StepCourse
stray w = finish (Dropped cause.StrayReply) w

abbrev pub to_cancel_of : BranchReply → Option Client → Work → StepCourse
to_cancel_of r None w = stray w
to_cancel_of r (Some c) w = finish Handled (to_cancel_client r.branch c (class_event r.code) w)

abbrev pub response_method : Received → List ℕ
response_method r = bytes_at r.bytes r.message.cseq.method

-- by its CSeq method a response is to the CANCEL of the branch, to its request, or a stray one
abbrev pub to_branch : Proxy → BranchReply → Option TxnBranch → Work → StepCourse
to_branch p r None w = stray w
to_branch p r (Some b) w =
    if bytes_eq (response_method r.response) (codes "CANCEL") then to_cancel_of r b.cancel w
    else if bytes_eq (response_method r.response) (method_in w.origin.request.bytes w.origin.request.message.start) then to_client p r b w
    else stray w

abbrev pub reply_by_code : Proxy → ℕ → Received → Addr → Option ℕ → Work → StepCourse
reply_by_code p n r source None w = stray w
reply_by_code p n r source (Some code) w =
    to_branch p (record { branch = n; response = r; code = code; source = source }) (slice_get w.state.branches n) w

abbrev pub reply_read : Proxy → ℕ → Option Received → Addr → Work → StepCourse
reply_read p n None source w = stray w
reply_read p n (Some r) source w = reply_by_code p n r source (status_of r.message.start) w

abbrev pub reply : Proxy → ℕ → List ℕ → Addr → Work → StepCourse
reply p n text source w = reply_read p n (reading text) source w

-- ---- a response is counted that wasn't received

-- 408 or 503 is counted for a branch; where the branch was counted already nothing comes of it
abbrev pub counted_by : Proxy → Bool → ℕ → ℕ → Work → StepCourse
counted_by p true n code w = counted p (kept_response n code None w)
counted_by p false n code w = finish Handled w

abbrev pub counts : Proxy → ℕ → ℕ → Work → StepCourse
counts p n code w = counted_by p (is_to_keep w.state.history n code) n code (noted n code w)

-- a client is over
abbrev pub over_client : ℕ → Work → Work
over_client n w = at_branch n (λ b. record b { client = client_over b.client; final_due = None }) w
