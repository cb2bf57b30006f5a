-- The table of `Rows` as a function, for definitions that go on from a step. That it is that table is a law of this crate.
use Rattle.std.specs.Prelude.{◌≡◌, ℕ, ◌*◌, Bool, true, false, nat_lt, Option, Some, None, unwrap_or, if◌then◌else◌}
use Rattle.txn_moments.specs.Moments.{t1, t4, moment_after, doubled_up_to_t2}
use Rattle.txn_server.specs.declared.machine.ResponseClass.{ResponseClass}
use Rattle.txn_server.specs.declared.machine.ResponseClass.TheVariants.{Provisional, Success, Failure, Neither}
use Rattle.txn_server.specs.declared.machine.Server.{Server}
use Rattle.txn_server.specs.declared.machine.ServerActs.{ServerActs}
use Rattle.txn_server.specs.declared.machine.ServerEvent.{ServerEvent}
use Rattle.txn_server.specs.declared.machine.ServerEvent.TheVariants.{Copy, Ack, Send, Timer}
use Rattle.txn_server.specs.declared.machine.ServerState.{ServerState}
use Rattle.txn_server.specs.declared.machine.ServerState.TheVariants.{Trying, Proceeding, Accepted, Completed, Confirmed, Terminated}
use Rattle.txn_server.specs.declared.machine.ServerTimer.{ServerTimer}
use Rattle.txn_server.specs.declared.machine.ServerTimer.TheVariants.{Retry, End}
use Rattle.txn_server.specs.Rows.{server_silent, server_sends, repeats, hands_on, server_retrying, responding, server_over}

-- the class of a response by its status code
abbrev pub class_of : ℕ → ResponseClass
class_of code =
    if nat_lt code 100 then Neither
    else if nat_lt code 200 then Provisional
    else if nat_lt code 300 then Success
    else if nat_lt code 700 then Failure
    else Neither

-- what a row makes where its timer is armed
abbrev pub server_if_armed : Option ℕ → Server × ServerActs → Option (Server × ServerActs)
server_if_armed None made = None
server_if_armed (Some due) made = Some made

-- what a row makes where the server has sent a response
abbrev pub if_answered : Bool → Server × ServerActs → Option (Server × ServerActs)
if_answered false made = None
if_answered true made = Some made

abbrev pub ending : Server → ServerState → ℕ → Server
ending s state due = record (responding s state) { end = Some due }

-- what the row for this kind of request and this state makes, where the request comes again
abbrev pub copied_at : Bool → ServerState → Server → Option (Server × ServerActs)
copied_at true Proceeding s = if_answered s.answered (s, repeats)
copied_at true Completed s = Some (s, repeats)
copied_at false Proceeding s = Some (s, repeats)
copied_at false Completed s = Some (s, repeats)
copied_at invite state s = None

-- where an ACK comes
abbrev pub acked_at : Bool → ServerState → Server → ℕ → Option (Server × ServerActs)
acked_at true Completed s now = Some (record s { state = Confirmed; retry = None; end = Some (moment_after now t4) }, server_silent)
acked_at true Accepted s now = Some (s, hands_on)
acked_at invite state s now = None

-- where a response of this class is to be sent
abbrev pub sent_at : Bool → ServerState → ResponseClass → Server → ℕ → Option (Server × ServerActs)
sent_at true Proceeding Provisional s now = Some (responding s Proceeding, server_sends)
sent_at true Proceeding Success s now = Some (ending s Accepted (moment_after now (64 * t1)), server_sends)
sent_at true Proceeding Failure s now =
    Some (record (server_retrying (responding s Completed) now t1) { end = Some (moment_after now (64 * t1)) }, server_sends)
sent_at true Accepted Success s now = Some (s, server_sends)
sent_at true Completed Success s now = Some (s, server_sends)
sent_at true Confirmed Success s now = Some (s, server_sends)
sent_at true Terminated Success s now = Some (s, server_sends)
sent_at false Trying Provisional s now = Some (responding s Proceeding, server_sends)
sent_at false Trying Success s now = Some (ending s Completed (moment_after now (64 * t1)), server_sends)
sent_at false Trying Failure s now = Some (ending s Completed (moment_after now (64 * t1)), server_sends)
sent_at false Proceeding Provisional s now = Some (responding s Proceeding, server_sends)
sent_at false Proceeding Success s now = Some (ending s Completed (moment_after now (64 * t1)), server_sends)
sent_at false Proceeding Failure s now = Some (ending s Completed (moment_after now (64 * t1)), server_sends)
sent_at invite state class s now = None

-- where a timer fires
abbrev pub fired_at : Bool → ServerState → ServerTimer → Server → ℕ → Option (Server × ServerActs)
fired_at true Completed Retry s now = server_if_armed s.retry (server_retrying s now (doubled_up_to_t2 s.interval), repeats)
fired_at true Accepted End s now = server_if_armed s.end (server_over s, server_silent)
fired_at true Completed End s now = server_if_armed s.end (server_over s, server_silent)
fired_at true Confirmed End s now = server_if_armed s.end (server_over s, server_silent)
fired_at false Completed End s now = server_if_armed s.end (server_over s, server_silent)
fired_at invite state timer s now = None

abbrev pub server_made_at : Bool → ServerState → ServerEvent → Server → ℕ → Option (Server × ServerActs)
server_made_at invite state Copy s now = copied_at invite state s
server_made_at invite state Ack s now = acked_at invite state s now
server_made_at invite state (Send code) s now = sent_at invite state (class_of code) s now
server_made_at invite state (Timer timer) s now = fired_at invite state timer s now

-- the server after an event, and what is done
abbrev pub server_after : Server → ServerEvent → ℕ → Server × ServerActs
server_after s event now = unwrap_or (server_made_at s.invite s.state event s now) (s, server_silent)

-- the server and the acts after an event are these: what the row makes, or nothing where there is none
abbrev pub MakesServer : Option (Server × ServerActs) → Server → Server → ServerActs → Type 0
MakesServer None old new acts = (new ≡ old) × (acts ≡ server_silent)
MakesServer (Some made) old new acts = (new ≡ made.0) × (acts ≡ made.1)
