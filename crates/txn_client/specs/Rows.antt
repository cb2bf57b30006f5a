-- The client transactions of RFC 3261, section 17.1, with the changes of RFC 6026, section 7.2: one rule for each row of
-- the table, in its order. A row says to which client it applies and at which event, and then the whole client after it
-- and all that the event makes the transaction do.
use Rattle.std.specs.Prelude.{◌≡◌, ℕ, ◌*◌, ◌⊎◌, Bool, true, false, Some, None, IsSome}
use Rattle.txn_moments.specs.Moments.{t1, t2, t4, moment_after, doubled, doubled_up_to_t2}
use Rattle.txn_client.specs.declared.machine.Client.{Client}
use Rattle.txn_client.specs.declared.machine.ClientActs.{ClientActs}
use Rattle.txn_client.specs.declared.machine.ClientEvent.{ClientEvent}
use Rattle.txn_client.specs.declared.machine.ClientEvent.TheVariants.{Start, Provisional, Success, Failure, Timer}
use Rattle.txn_client.specs.declared.machine.ClientState.{ClientState}
use Rattle.txn_client.specs.declared.machine.ClientState.TheVariants.{Calling, Trying, Proceeding, Accepted, Completed, Terminated}
use Rattle.txn_client.specs.declared.machine.ClientTimer.TheVariants.{Retry, Limit, Linger}

-- What a step does: nothing, sends the request, hands the response up, both acknowledges it and hands it up, or reports
-- that no response came in time.
abbrev pub client_silent : ClientActs
client_silent = record { send = false; ack = false; up = false; timeout = false }

abbrev pub client_sends : ClientActs
client_sends = record { send = true; ack = false; up = false; timeout = false }

abbrev pub acks : ClientActs
acks = record { send = false; ack = true; up = false; timeout = false }

abbrev pub passes_up : ClientActs
passes_up = record { send = false; ack = false; up = true; timeout = false }

abbrev pub acks_and_passes_up : ClientActs
acks_and_passes_up = record { send = false; ack = true; up = true; timeout = false }

abbrev pub reports_timeout : ClientActs
reports_timeout = record { send = false; ack = false; up = false; timeout = true }

-- a new client: the request isn't sent yet, and no timer is armed
abbrev pub new_client : Bool → Client
new_client true = record { invite = true; state = Calling; retry = None; interval = 0; limit = None; linger = None }
new_client false = record { invite = false; state = Trying; retry = None; interval = 0; limit = None; linger = None }

-- the client of an INVITE, or of another request, in this state
abbrev pub InviteClient : Client → ClientState → Type 0
InviteClient c state = (c.invite ≡ true) × (c.state ≡ state)

abbrev pub OtherClient : Client → ClientState → Type 0
OtherClient c state = (c.invite ≡ false) × (c.state ≡ state)

-- the timer A or E is armed anew, to fire after this interval
abbrev pub client_retrying : Client → ℕ → ℕ → Client
client_retrying c now interval = record c { retry = Some (moment_after now interval); interval = interval }

-- timers A and B, or E and F, stop: no response is waited for any more
abbrev pub responded : Client → Client
responded c = record c { retry = None; limit = None }

-- the transaction is over, and no timer of it is armed
abbrev pub client_over : Client → Client
client_over c = record c { state = Terminated; retry = None; limit = None; linger = None }

pub data ClientRow (old : Client) (now : ℕ) : ClientEvent → Client → ClientActs → Type 0 where
  -- An INVITE (RFC 3261, section 17.1.1.2). Calling: the request is sent; timer A fires after T1, timer B after 64 * T1.
  calling_start : InviteClient old Calling →
      ClientRow old now Start (record (client_retrying old now t1) { limit = Some (moment_after now (64 * t1)) }) client_sends
  -- Timer A fires: the request is sent again, and A fires after twice the interval.
  calling_a : InviteClient old Calling → IsSome old.retry →
      ClientRow old now (Timer Retry) (client_retrying old now (doubled old.interval)) client_sends
  -- Timer B fires: the timeout is reported, and the transaction is over.
  calling_b : InviteClient old Calling → IsSome old.limit → ClientRow old now (Timer Limit) (client_over old) reports_timeout
  -- Calling, Proceeding: a 1xx is passed up; no request is sent again.
  early_1xx : InviteClient old Calling ⊎ InviteClient old Proceeding →
      ClientRow old now Provisional (record (responded old) { state = Proceeding }) passes_up
  -- A 2xx is passed up (RFC 6026, section 7.2); timer M fires after 64 * T1.
  early_2xx : InviteClient old Calling ⊎ InviteClient old Proceeding →
      ClientRow old now Success
      (record (responded old) { state = Accepted; linger = Some (moment_after now (64 * t1)) }) passes_up
  -- A 300 to 699 gets an ACK and is passed up; timer D fires after 32 seconds.
  early_failure : InviteClient old Calling ⊎ InviteClient old Proceeding →
      ClientRow old now Failure
      (record (responded old) { state = Completed; linger = Some (moment_after now 32000) }) acks_and_passes_up
  -- Completed: a 300 to 699 that comes again gets an ACK again, and isn't passed up.
  completed_failure : InviteClient old Completed → ClientRow old now Failure old acks
  -- Timer D fires.
  completed_d : InviteClient old Completed → IsSome old.linger → ClientRow old now (Timer Linger) (client_over old) client_silent
  -- Accepted (RFC 6026, section 7.2): each further 2xx is passed up.
  accepted_2xx : InviteClient old Accepted → ClientRow old now Success old passes_up
  -- Timer M fires.
  accepted_m : InviteClient old Accepted → IsSome old.linger → ClientRow old now (Timer Linger) (client_over old) client_silent
  -- Another request (RFC 3261, section 17.1.2.2). Trying: it is sent; timer E fires after T1, timer F after 64 * T1.
  trying_start : OtherClient old Trying →
      ClientRow old now Start (record (client_retrying old now t1) { limit = Some (moment_after now (64 * t1)) }) client_sends
  -- Timer E fires: the request is sent again, and E fires after twice the interval, at most T2.
  trying_e : OtherClient old Trying → IsSome old.retry →
      ClientRow old now (Timer Retry) (client_retrying old now (doubled_up_to_t2 old.interval)) client_sends
  -- Proceeding: timer E fires; it fires again after T2.
  proceeding_e : OtherClient old Proceeding → IsSome old.retry → ClientRow old now (Timer Retry) (client_retrying old now t2) client_sends
  -- Trying, Proceeding: timer F fires.
  waiting_f : OtherClient old Trying ⊎ OtherClient old Proceeding → IsSome old.limit →
      ClientRow old now (Timer Limit) (client_over old) reports_timeout
  -- A 1xx is passed up; the timers go on.
  waiting_1xx : OtherClient old Trying ⊎ OtherClient old Proceeding →
      ClientRow old now Provisional (record old { state = Proceeding }) passes_up
  -- A final response is passed up; timer K fires after T4.
  waiting_2xx : OtherClient old Trying ⊎ OtherClient old Proceeding →
      ClientRow old now Success
      (record (responded old) { state = Completed; linger = Some (moment_after now t4) }) passes_up
  waiting_failure : OtherClient old Trying ⊎ OtherClient old Proceeding →
      ClientRow old now Failure
      (record (responded old) { state = Completed; linger = Some (moment_after now t4) }) passes_up
  -- Completed: timer K fires.
  completed_k : OtherClient old Completed → IsSome old.linger → ClientRow old now (Timer Linger) (client_over old) client_silent

-- no row of the table has this client and event
abbrev pub NoClientRow : Client → ClientEvent → ℕ → Type 0
NoClientRow old event now = (new : Client) (acts : ClientActs) → ¬ ClientRow old now event new acts

-- A step: the row of the table, or where there is none nothing changes and nothing is done.
abbrev pub ClientStep : Client → ClientEvent → ℕ → Client → ClientActs → Type 0
ClientStep old event now new acts =
    ClientRow old now event new acts ⊎ (NoClientRow old event now × (new ≡ old) × (acts ≡ client_silent))
