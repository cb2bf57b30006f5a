-- What is decided in a step, and the datagrams among it.
use Rattle.std.specs.Prelude.{ℕ, ◌==◌, Bool, true, false, not, ◌&&◌, List, [], ◌∷◌, ◌++◌, length, Option, Some, None, is_none, slice_get, if◌then◌else◌, codes}
use Rattle.outside_ports.specs.declared.port.Addr.{Addr}
use Rattle.sip_build.specs.Addresses.{reply_address}
use Rattle.sip_build.specs.Reply.{reply_text}
use Rattle.sip_build.specs.Hop.{cancel_text}
use Rattle.txn_moments.specs.Moments.{moment_after}
use Rattle.txn_client.specs.declared.machine.Client.{Client}
use Rattle.txn_client.specs.declared.machine.ClientEvent.{ClientEvent}
use Rattle.txn_client.specs.declared.machine.ClientEvent.TheVariants as client
use Rattle.txn_client.specs.declared.machine.ClientState.{ClientState}
use Rattle.txn_client.specs.declared.machine.ClientState.TheVariants as client_state
use Rattle.txn_client.specs.Rows.{new_client}
use Rattle.txn_client.specs.After.{client_after}
use Rattle.txn_server.specs.declared.machine.Server.{Server}
use Rattle.txn_server.specs.declared.machine.ServerActs.{ServerActs}
use Rattle.txn_server.specs.declared.machine.ServerEvent.{ServerEvent}
use Rattle.txn_server.specs.declared.machine.ServerEvent.TheVariants as server
use Rattle.txn_server.specs.declared.machine.ServerState.{ServerState}
use Rattle.txn_server.specs.declared.machine.ServerState.TheVariants as server_state
use Rattle.txn_server.specs.After.{server_after}
use Rattle.fork_core.specs.Decisions.{to_cancel}
use Rattle.pv_table.specs.declared.facts.Response.{Response}
use Rattle.host_meaning.specs.Run.{is_readable}
use Rattle.txn_dialogue.specs.Slots.{Origin, TxnBranch, TxnState, change_at}

-- a datagram that is to be sent, and the branch whose request it is
pub record Sent : Type 0 where
  pub to : Addr
  pub text : List ℕ
  pub branch : Option ℕ

-- what is decided so far: the transaction as it becomes, and as an abort puts it back; how many blocks it has; whether its
-- request is handled for the first time, and whether there is a transaction; the datagrams in the order of deciding; how many
-- continuations this step has won, and whether it is one itself
pub record Work : Type 0 where
  pub origin : Origin
  pub state : TxnState
  pub base : TxnState
  pub blocks : ℕ
  pub first : Bool
  pub exists : Bool
  pub sends : List Sent
  pub continued : ℕ
  pub is_continuation : Bool
  pub now : ℕ

-- ---- one datagram

-- A text that doesn't read as a message isn't sent, as one that is too long: all goes on as though it was.
abbrev pub and_sent : Addr → List ℕ → Option ℕ → List Sent → List Sent
and_sent to text branch sends = if is_readable text then sends ++ record { to = to; text = text; branch = branch } ∷ [] else sends

abbrev pub sent_if : Bool → Addr → List ℕ → Option ℕ → List Sent → List Sent
sent_if true to text branch sends = and_sent to text branch sends
sent_if false to text branch sends = sends

-- ---- responses

-- where the responses go (RFC 3261, section 18.2.2)
abbrev pub back_to : Origin → Addr
back_to o = reply_address o.request.message.via o.source

-- a final response was sent
abbrev pub is_final_state : ServerState → Bool
is_final_state server_state.Trying = false
is_final_state server_state.Proceeding = false
is_final_state server_state.Accepted = true
is_final_state server_state.Completed = true
is_final_state server_state.Confirmed = true
is_final_state server_state.Terminated = true

abbrev pub has_final : TxnState → Bool
has_final s = is_final_state s.server.state

-- What is kept of a response: one that doesn't read is never sent, so nothing of its text is kept.
abbrev pub kept_of : List ℕ → List ℕ
kept_of text = if is_readable text then text else []

-- the response that is repeated is the last one up to the first final one
abbrev pub last_of : Bool → Bool → List ℕ → Option (List ℕ) → Option (List ℕ)
last_of true false text last = Some (kept_of text)
last_of true true text last = last
last_of false answered text last = last

abbrev pub served : Bool → Server → ServerEvent → ℕ → Server × ServerActs
served true s event now = server_after s event now
served false s event now = (s, record { send = false; repeat = false; loose_ack = false })

-- a response with this text is handed to the server, if it is decided
abbrev pub responding_if : Bool → ℕ → List ℕ → Work → Work
responding_if decided code text w =
    let made = served decided w.state.server (server.Send code) w.now in
    record w {
      state = record w.state { server = made.0; last = last_of made.1.send (has_final w.state) text w.state.last };
      sends = sent_if made.1.send (back_to w.origin) text None w.sends;
    }

abbrev pub responding : ℕ → List ℕ → Work → Work
responding code text w = responding_if true code text w

-- a response that the proxy makes
abbrev pub made_text : Origin → ℕ → List ℕ → List ℕ
made_text o code reason = reply_text o.request.bytes o.request.message o.source code reason

abbrev pub responded : ℕ → List ℕ → Work → Work
responded code reason w = responding code (made_text w.origin code reason) w

-- those that a run decided, in their order
abbrev pub all_responded : List Response → Work → Work
all_responded [] w = w
all_responded (r ∷ rs) w = all_responded rs (responded r.code r.reason w)

abbrev pub repeated_text : Option (List ℕ) → List ℕ
repeated_text None = []
repeated_text (Some text) = text

-- an event happens to the server that hands in no response: what is kept is repeated, where the server says so
abbrev pub server_step : ServerEvent → Work → Work
server_step event w =
    let made = server_after w.state.server event w.now in
    record w {
      state = record w.state { server = made.0 };
      sends = sent_if made.1.repeat (back_to w.origin) (repeated_text w.state.last) None w.sends;
    }

-- ---- requests of branches

abbrev pub at_branch : ℕ → (TxnBranch → TxnBranch) → Work → Work
at_branch n f w = record w { state = record w.state { branches = change_at n f w.state.branches } }

-- an event happens to a client: its request is sent again, and a response is acknowledged, where the client says so
-- (RFC 3261, section 17.1.1.3)
abbrev pub client_step : ℕ → TxnBranch → ClientEvent → List ℕ → Work → Work
client_step n b event ack w =
    let made = client_after b.client event w.now in
    record w {
      state = record w.state { branches = change_at n (λ x. record x { client = made.0 }) w.state.branches };
      sends = sent_if made.1.ack b.to ack None (sent_if made.1.send b.to b.request.bytes (Some n) w.sends);
    }

-- a CANCEL waits for a provisional response (RFC 3261, section 9.1)
abbrev pub is_proceeding : ClientState → Bool
is_proceeding client_state.Calling = false
is_proceeding client_state.Trying = false
is_proceeding client_state.Proceeding = true
is_proceeding client_state.Accepted = false
is_proceeding client_state.Completed = false
is_proceeding client_state.Terminated = false

-- a branch that is to be cancelled, and wasn't yet
abbrev pub is_ripe : TxnBranch → Bool
is_ripe b = b.is_cancelled && is_none b.cancel && is_proceeding b.client.state

-- the client of a request that is about to be sent, once it is
abbrev pub begun_client : Bool → ℕ → Client
begun_client invite now = (client_after (new_client invite) client.Start now).0

-- a CANCEL has a client of its own, and 64 * T1 to have an effect
abbrev pub with_cancel : ℕ → TxnBranch → TxnBranch
with_cancel now b = record b {
  cancel = if is_ripe b then Some (begun_client false now) else b.cancel;
  quit_due = if is_ripe b then Some (moment_after now 32000) else b.quit_due;
}

abbrev pub cancel_sends : Option TxnBranch → List Sent → List Sent
cancel_sends None sends = sends
cancel_sends (Some b) sends = sent_if (is_ripe b) b.to (cancel_text b.request.bytes b.request.message) None sends

-- the CANCEL of a branch is sent where it is ripe
abbrev pub cancel_ripe : ℕ → Work → Work
cancel_ripe n w = record w {
  state = record w.state { branches = change_at n (with_cancel w.now) w.state.branches };
  sends = cancel_sends (slice_get w.state.branches n) w.sends;
}

-- a branch is to be cancelled
abbrev pub cancelling : ℕ → Work → Work
cancelling n w = cancel_ripe n (at_branch n (λ b. record b { is_cancelled = true }) w)

abbrev pub all_cancelling : List ℕ → Work → Work
all_cancelling [] w = w
all_cancelling (n ∷ ns) w = all_cancelling ns (cancelling n w)

-- all branches of an INVITE that have no final response are to be cancelled
abbrev pub cancelling_pending : Work → Work
cancelling_pending w = all_cancelling (to_cancel w.state.history) w

-- ---- 487

-- A cancelled transaction is answered 487 once no branch is pending and no continuation is owed, unless it has a final
-- response (RFC 3261, sections 9.2 and 16.10).
abbrev pub owes_487 : TxnState → Bool
owes_487 s = s.is_cancelled && not (has_final s) && (length (to_cancel s.history) == 0) && not s.is_owed

abbrev pub settled : Work → Work
settled w = responding_if (owes_487 w.state) 487 (made_text w.origin 487 (codes "Request Terminated")) w
