-- The server transactions of RFC 3261, section 17.2, with the changes of RFC 6026, section 7.1: one rule for each row of
-- the table, in its order. A row says to which server it applies and at which event, and then the whole server after it
-- and all that the event makes the transaction do.
use Rattle.std.specs.Prelude.{◌≡◌, ℕ, ◌*◌, ◌<◌, ◌≤◌, ◌⊎◌, Bool, true, false, Some, None, IsSome}
use Rattle.txn_moments.specs.Moments.{t1, t4, moment_after, doubled_up_to_t2}
use Rattle.txn_server.specs.declared.machine.Server.{Server}
use Rattle.txn_server.specs.declared.machine.ServerActs.{ServerActs}
use Rattle.txn_server.specs.declared.machine.ServerEvent.{ServerEvent}
use Rattle.txn_server.specs.declared.machine.ServerEvent.TheVariants.{Copy, Ack, Send, Timer}
use Rattle.txn_server.specs.declared.machine.ServerState.{ServerState}
use Rattle.txn_server.specs.declared.machine.ServerState.TheVariants.{Trying, Proceeding, Accepted, Completed, Confirmed, Terminated}
use Rattle.txn_server.specs.declared.machine.ServerTimer.TheVariants.{Retry, End}

-- What a step does: nothing, sends the response that was handed in, sends the kept response again, or hands on an ACK.
abbrev pub server_silent : ServerActs
server_silent = record { send = false; repeat = false; loose_ack = false }

abbrev pub server_sends : ServerActs
server_sends = record { send = true; repeat = false; loose_ack = false }

abbrev pub repeats : ServerActs
repeats = record { send = false; repeat = true; loose_ack = false }

abbrev pub hands_on : ServerActs
hands_on = record { send = false; repeat = false; loose_ack = true }

-- the responses: provisional, 2xx, other final ones
abbrev pub IsProvisional : ℕ → Type 0
IsProvisional code = (100 ≤ code) × (code < 200)

abbrev pub IsSuccess : ℕ → Type 0
IsSuccess code = (200 ≤ code) × (code < 300)

abbrev pub IsFailure : ℕ → Type 0
IsFailure code = (300 ≤ code) × (code < 700)

abbrev pub IsFinal : ℕ → Type 0
IsFinal code = (200 ≤ code) × (code < 700)

-- a new server: no response was sent, and no timer is armed
abbrev pub new_server : Bool → Server
new_server true = record { invite = true; state = Proceeding; answered = false; retry = None; interval = 0; end = None }
new_server false = record { invite = false; state = Trying; answered = false; retry = None; interval = 0; end = None }

-- the server of an INVITE, or of another request, in this state
abbrev pub InviteServer : Server → ServerState → Type 0
InviteServer s state = (s.invite ≡ true) × (s.state ≡ state)

abbrev pub OtherServer : Server → ServerState → Type 0
OtherServer s state = (s.invite ≡ false) × (s.state ≡ state)

-- timer G is armed anew, to fire after this interval
abbrev pub server_retrying : Server → ℕ → ℕ → Server
server_retrying s now interval = record s { retry = Some (moment_after now interval); interval = interval }

-- a response was sent, and the server is in this state
abbrev pub responding : Server → ServerState → Server
responding s state = record s { state = state; answered = true }

-- the transaction is over, and no timer of it is armed
abbrev pub server_over : Server → Server
server_over s = record s { state = Terminated; retry = None; end = None }

pub data ServerRow (old : Server) (now : ℕ) : ServerEvent → Server → ServerActs → Type 0 where
  -- An INVITE (RFC 3261, section 17.2.1). Proceeding: where the INVITE comes again, the last response is repeated, if any.
  proceeding_copy : InviteServer old Proceeding → old.answered ≡ true → ServerRow old now Copy old repeats
  -- A 1xx is sent.
  proceeding_1xx : (code : ℕ) → IsProvisional code → InviteServer old Proceeding →
      ServerRow old now (Send code) (responding old Proceeding) server_sends
  -- A 2xx is sent (RFC 6026, section 7.1); timer L fires after 64 * T1.
  proceeding_2xx : (code : ℕ) → IsSuccess code → InviteServer old Proceeding →
      ServerRow old now (Send code) (record (responding old Accepted) { end = Some (moment_after now (64 * t1)) }) server_sends
  -- A 300 to 699 is sent; timer G fires after T1, timer H after 64 * T1.
  proceeding_failure : (code : ℕ) → IsFailure code → InviteServer old Proceeding →
      ServerRow old now (Send code)
      (record (server_retrying (responding old Completed) now t1) { end = Some (moment_after now (64 * t1)) }) server_sends
  -- Completed: where the INVITE comes again, the response is repeated.
  completed_copy : InviteServer old Completed → ServerRow old now Copy old repeats
  -- Timer G fires: the response is repeated, and G fires after twice the interval, at most T2.
  completed_g : InviteServer old Completed → IsSome old.retry →
      ServerRow old now (Timer Retry) (server_retrying old now (doubled_up_to_t2 old.interval)) repeats
  -- The ACK comes: G and H stop; timer I fires after T4.
  completed_ack : InviteServer old Completed →
      ServerRow old now Ack (record old { state = Confirmed; retry = None; end = Some (moment_after now t4) }) server_silent
  -- Timer H fires.
  completed_h : InviteServer old Completed → IsSome old.end → ServerRow old now (Timer End) (server_over old) server_silent
  -- Confirmed: timer I fires.
  confirmed_i : InviteServer old Confirmed → IsSome old.end → ServerRow old now (Timer End) (server_over old) server_silent
  -- After another final response a 2xx is sent and changes nothing.
  late_2xx : (code : ℕ) → IsSuccess code → InviteServer old Completed ⊎ InviteServer old Confirmed ⊎ InviteServer old Terminated →
      ServerRow old now (Send code) old server_sends
  -- Accepted (RFC 6026, section 7.1): each further 2xx is sent.
  accepted_2xx : (code : ℕ) → IsSuccess code → InviteServer old Accepted → ServerRow old now (Send code) old server_sends
  -- An ACK is handed on.
  accepted_ack : InviteServer old Accepted → ServerRow old now Ack old hands_on
  -- Timer L fires.
  accepted_l : InviteServer old Accepted → IsSome old.end → ServerRow old now (Timer End) (server_over old) server_silent
  -- Another request (RFC 3261, section 17.2.2). Trying, Proceeding: a 1xx is sent.
  open_1xx : (code : ℕ) → IsProvisional code → OtherServer old Trying ⊎ OtherServer old Proceeding →
      ServerRow old now (Send code) (responding old Proceeding) server_sends
  -- A final response is sent; timer J fires after 64 * T1.
  open_final : (code : ℕ) → IsFinal code → OtherServer old Trying ⊎ OtherServer old Proceeding →
      ServerRow old now (Send code) (record (responding old Completed) { end = Some (moment_after now (64 * t1)) }) server_sends
  -- Proceeding, Completed: where the request comes again, the last response is repeated.
  answered_copy : OtherServer old Proceeding ⊎ OtherServer old Completed → ServerRow old now Copy old repeats
  -- Completed: timer J fires.
  completed_j : OtherServer old Completed → IsSome old.end → ServerRow old now (Timer End) (server_over old) server_silent

-- no row of the table has this server and event
abbrev pub NoServerRow : Server → ServerEvent → ℕ → Type 0
NoServerRow old event now = (new : Server) (acts : ServerActs) → ¬ ServerRow old now event new acts

-- A step: the row of the table, or where there is none nothing changes and nothing is done.
abbrev pub ServerStep : Server → ServerEvent → ℕ → Server → ServerActs → Type 0
ServerStep old event now new acts =
    ServerRow old now event new acts ⊎ (NoServerRow old event now × (new ≡ old) × (acts ≡ server_silent))
