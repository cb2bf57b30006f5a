-- The table of `Rows` as a function, for definitions that go on from a step. That it is that table is a law of this crate.
use Rattle.std.specs.Prelude.{◌≡◌, ℕ, ◌*◌, Bool, true, false, Option, Some, None, unwrap_or}
use Rattle.txn_moments.specs.Moments.{t1, t2, t4, moment_after, doubled, doubled_up_to_t2}
use Rattle.txn_client.specs.declared.machine.Client.{Client}
use Rattle.txn_client.specs.declared.machine.ClientActs.{ClientActs}
use Rattle.txn_client.specs.declared.machine.ClientEvent.{ClientEvent}
use Rattle.txn_client.specs.declared.machine.ClientEvent.TheVariants.{Start, Provisional, Success, Failure, Timer}
use Rattle.txn_client.specs.declared.machine.ClientState.{ClientState}
use Rattle.txn_client.specs.declared.machine.ClientState.TheVariants.{Calling, Trying, Proceeding, Accepted, Completed}
use Rattle.txn_client.specs.declared.machine.ClientTimer.TheVariants.{Retry, Limit, Linger}
use Rattle.txn_client.specs.Rows.{client_silent, client_sends, acks, passes_up, acks_and_passes_up, reports_timeout, client_retrying, responded, client_over}

-- what a row makes where its timer is armed
abbrev pub client_if_armed : Option ℕ → Client × ClientActs → Option (Client × ClientActs)
client_if_armed None made = None
client_if_armed (Some due) made = Some made

abbrev pub started : Client → ℕ → Client
started c now = record (client_retrying c now t1) { limit = Some (moment_after now (64 * t1)) }

abbrev pub lingering : Client → ClientState → ℕ → Client
lingering c state due = record (responded c) { state = state; linger = Some due }

-- what the row for this kind of request, this state and this event makes
abbrev pub client_made_at : Bool → ClientState → ClientEvent → Client → ℕ → Option (Client × ClientActs)
client_made_at true Calling Start c now = Some (started c now, client_sends)
client_made_at true Calling (Timer Retry) c now = client_if_armed c.retry (client_retrying c now (doubled c.interval), client_sends)
client_made_at true Calling (Timer Limit) c now = client_if_armed c.limit (client_over c, reports_timeout)
client_made_at true Calling Provisional c now = Some (record (responded c) { state = Proceeding }, passes_up)
client_made_at true Calling Success c now = Some (lingering c Accepted (moment_after now (64 * t1)), passes_up)
client_made_at true Calling Failure c now = Some (lingering c Completed (moment_after now 32000), acks_and_passes_up)
client_made_at true Proceeding Provisional c now = Some (record (responded c) { state = Proceeding }, passes_up)
client_made_at true Proceeding Success c now = Some (lingering c Accepted (moment_after now (64 * t1)), passes_up)
client_made_at true Proceeding Failure c now = Some (lingering c Completed (moment_after now 32000), acks_and_passes_up)
client_made_at true Completed Failure c now = Some (c, acks)
client_made_at true Completed (Timer Linger) c now = client_if_armed c.linger (client_over c, client_silent)
client_made_at true Accepted Success c now = Some (c, passes_up)
client_made_at true Accepted (Timer Linger) c now = client_if_armed c.linger (client_over c, client_silent)
client_made_at false Trying Start c now = Some (started c now, client_sends)
client_made_at false Trying (Timer Retry) c now = client_if_armed c.retry (client_retrying c now (doubled_up_to_t2 c.interval), client_sends)
client_made_at false Trying (Timer Limit) c now = client_if_armed c.limit (client_over c, reports_timeout)
client_made_at false Trying Provisional c now = Some (record c { state = Proceeding }, passes_up)
client_made_at false Trying Success c now = Some (lingering c Completed (moment_after now t4), passes_up)
client_made_at false Trying Failure c now = Some (lingering c Completed (moment_after now t4), passes_up)
client_made_at false Proceeding (Timer Retry) c now = client_if_armed c.retry (client_retrying c now t2, client_sends)
client_made_at false Proceeding (Timer Limit) c now = client_if_armed c.limit (client_over c, reports_timeout)
client_made_at false Proceeding Provisional c now = Some (record c { state = Proceeding }, passes_up)
client_made_at false Proceeding Success c now = Some (lingering c Completed (moment_after now t4), passes_up)
client_made_at false Proceeding Failure c now = Some (lingering c Completed (moment_after now t4), passes_up)
client_made_at false Completed (Timer Linger) c now = client_if_armed c.linger (client_over c, client_silent)
client_made_at invite state event c now = None

-- the client after an event, and what is done
abbrev pub client_after : Client → ClientEvent → ℕ → Client × ClientActs
client_after c event now = unwrap_or (client_made_at c.invite c.state event c now) (c, client_silent)

-- the client and the acts after an event are these: what the row makes, or nothing where there is none
abbrev pub MakesClient : Option (Client × ClientActs) → Client → Client → ClientActs → Type 0
MakesClient None old new acts = (new ≡ old) × (acts ≡ client_silent)
MakesClient (Some made) old new acts = (new ≡ made.0) × (acts ≡ made.1)
