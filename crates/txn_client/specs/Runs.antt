-- Runs of a client from its beginning.
use Rattle.std.specs.Prelude.{◌≡◌, ℕ, ◌⊎◌, Bool, true, false, List, [], ◌∷◌, None, IsSome}
use Rattle.txn_client.specs.declared.machine.Client.{Client}
use Rattle.txn_client.specs.declared.machine.ClientActs.{ClientActs}
use Rattle.txn_client.specs.declared.machine.ClientEvent.{ClientEvent}
use Rattle.txn_client.specs.declared.machine.ClientEvent.TheVariants.{Start, Provisional, Success, Failure, Timer}
use Rattle.txn_client.specs.declared.machine.ClientState.{ClientState}
use Rattle.txn_client.specs.declared.machine.ClientState.TheVariants.{Calling, Trying, Proceeding, Accepted, Completed, Terminated}
use Rattle.txn_client.specs.Rows.{ClientStep, new_client}

-- a step that was made: the client before it, the event and its moment, and what came of it
pub record MadeClientStep : Type 0 where
  pub old : Client
  pub event : ClientEvent
  pub now : ℕ
  pub new : Client
  pub acts : ClientActs

-- the steps of a client from its beginning, the latest first, and the client after them
pub data ClientRun (invite : Bool) : List MadeClientStep → Client → Type 0 where
  begins : ClientRun invite [] (new_client invite)
  goes_on : (steps : List MadeClientStep) (old : Client) (event : ClientEvent) (now : ℕ) (new : Client) (acts : ClientActs) →
      ClientRun invite steps old → ClientStep old event now new acts →
      ClientRun invite (record { old = old; event = event; now = now; new = new; acts = acts } ∷ steps) new

-- What settles the request: a timeout, or a final response that is passed up. After a 2xx to an INVITE, further ones
-- settle nothing.
abbrev pub is_final_event : ClientEvent → Bool
is_final_event Success = true
is_final_event Failure = true
is_final_event Start = false
is_final_event Provisional = false
is_final_event (Timer timer) = false

abbrev pub is_accepted : ClientState → Bool
is_accepted Accepted = true
is_accepted Calling = false
is_accepted Trying = false
is_accepted Proceeding = false
is_accepted Completed = false
is_accepted Terminated = false

abbrev pub Settles : MadeClientStep → Type 0
Settles s = (s.acts.timeout ≡ true) ⊎ ((s.acts.up ≡ true) × (is_final_event s.event ≡ true) × (is_accepted s.old.state ≡ false))

-- the timers that a state has
abbrev pub HasClientTimers : Bool → ClientState → Client → Type 0
HasClientTimers invite Calling c = c.linger ≡ None
HasClientTimers invite Trying c = c.linger ≡ None
HasClientTimers true Proceeding c = (c.retry ≡ None) × (c.limit ≡ None) × (c.linger ≡ None)
HasClientTimers false Proceeding c = c.linger ≡ None
HasClientTimers invite Accepted c = (c.retry ≡ None) × (c.limit ≡ None)
HasClientTimers invite Completed c = (c.retry ≡ None) × (c.limit ≡ None)
HasClientTimers invite Terminated c = (c.retry ≡ None) × (c.limit ≡ None) × (c.linger ≡ None)

-- a state in which a final response was got has the timer armed that ends the transaction: D or K in Completed, M in Accepted
abbrev pub ClientWaitsToEnd : ClientState → Client → Type 0
ClientWaitsToEnd Accepted c = IsSome c.linger
ClientWaitsToEnd Completed c = IsSome c.linger
ClientWaitsToEnd Calling c = Unit {0}
ClientWaitsToEnd Trying c = Unit {0}
ClientWaitsToEnd Proceeding c = Unit {0}
ClientWaitsToEnd Terminated c = Unit {0}
