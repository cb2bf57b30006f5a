-- Short texts, and steps over them, in which the laws of `examples` are said.
use Rattle.std.specs.Prelude.{ℕ, ◌+◌, ◌*◌, ◌==◌, length, Bool, ◌&&◌, List, [], ◌∷◌, ◌++◌, Option, Some, None, if◌then◌else◌, codes}
use Rattle.dialogue.specs.Course.{Ends, Asks, Takes}
use Rattle.outside_ports.specs.declared.port.Addr.{Addr}
use Rattle.pv_values.specs.declared.block.BlockKind.TheVariants as block
use Rattle.pv_values.specs.declared.run.How.TheVariants as how
use Rattle.cfg_tree.specs.declared.script.Script.{Script}
use Rattle.cfg_tree.specs.declared.script.Stmt.{Stmt}
use Rattle.host_meaning.specs.declared.ask.Asked.{Asked}
use Rattle.host_meaning.specs.declared.ask.Asked.TheVariants as ask
use Rattle.host_meaning.specs.declared.ask.Heard.{Heard}
use Rattle.host_meaning.specs.declared.ask.Heard.TheVariants as heard
use Rattle.pv_table.specs.declared.facts.Target.{Target}
use Rattle.pv_table.specs.declared.facts.Relay.{Relay}
use Rattle.txn_dialogue.specs.declared.happening.SlotTimer.{SlotTimer}
use Rattle.txn_dialogue.specs.Timers.{timer_at}
use Rattle.host_meaning.specs.Run.{Received, RunState, with_facts}
use Rattle.host_meaning.specs.Transactions.{with_transaction, with_trying}
use Rattle.host_meaning.specs.Relaying.{relayed}
use Rattle.host_meaning.specs.Suspending.{waiting}
use Rattle.txn_dialogue.specs.declared.happening.Happening.TheVariants as happening
use Rattle.txn_dialogue.specs.declared.happening.Happening.{Happening}
use Rattle.txn_dialogue.specs.Slots.{Proxy, Origin, TxnState, change_at, Seen, SeenVacant, SeenLive, reading}
use Rattle.txn_dialogue.specs.Sends.{Work}
use Rattle.txn_dialogue.specs.Ending.{StepEnd, Done, Aborted, StepCourse, slot_of}
use Rattle.txn_dialogue.specs.Runs.{request_facts, beginning, takes}
use Rattle.txn_dialogue.specs.Events.{first_work, work_on, after_request}
use Rattle.txn_dialogue.specs.Replies.{noted, over_client}
use Rattle.txn_dialogue.specs.Dialogue.{dialogue}
use Rattle.txn_dialogue.specs.declared.mark.Mark.{Mark}

-- ---- what a step does

-- what was asked on these answers, the slot behind it, and its mark; without a mark the step was aborted, or isn't over
pub record Story : Type 0 where
  pub asks : List Asked
  pub seen : Seen
  pub mark : Option Mark

abbrev pub and_asked : Asked → Story → Story
and_asked a s = record s { asks = a ∷ s.asks }

abbrev pub mark_of : StepEnd → Option Mark
mark_of (Done seen mark) = Some mark
mark_of (Aborted seen) = None

-- memory is found everywhere; where answers are missing the course is left
abbrev pub story : Seen → StepCourse → List Heard → Story
story seen (Ends end) hs = record { asks = []; seen = slot_of end; mark = mark_of end }
story seen (Asks a next) [] = record { asks = a ∷ []; seen = seen; mark = None }
story seen (Asks a next) (h ∷ hs) = and_asked a (story seen (next h) hs)
story seen (Takes short on) hs = story seen on hs

-- the same, but memory is short where it is first needed
abbrev pub short_story : Seen → StepCourse → List Heard → Story
short_story seen (Ends end) hs = record { asks = []; seen = slot_of end; mark = mark_of end }
short_story seen (Asks a next) [] = record { asks = a ∷ []; seen = seen; mark = None }
short_story seen (Asks a next) (h ∷ hs) = and_asked a (short_story seen (next h) hs)
short_story seen (Takes short on) hs = story seen short hs

-- how a slot stands: it is live; or it waits under this serial; or it is vacant, under this generation
pub data Stand : Type 0 where
  Lives : Stand
  Waits : (serial : ℕ) → Stand
  IsVacant : (generation : ℕ) → Stand

abbrev pub waits_under : Option ℕ → Stand
waits_under None = Lives
waits_under (Some serial) = Waits serial

abbrev pub stand_of : Seen → Stand
stand_of (SeenVacant generation) = IsVacant generation
stand_of (SeenLive live) = waits_under live.state.suspension

-- the start line of a text
abbrev pub start_line_of : List ℕ → List ℕ
start_line_of [] = []
start_line_of (b ∷ bs) = if b == 13 then [] else b ∷ start_line_of bs

-- of each datagram its start line
abbrev pub line_of : Asked → Asked
line_of (ask.Send to text) = ask.Send to (start_line_of text)
line_of a = a

abbrev pub lines_of : List Asked → List Asked
lines_of [] = []
lines_of (a ∷ as') = line_of a ∷ lines_of as'

-- the whole list of asks, of each datagram its start line; how the slot stands behind them; and the mark
abbrev pub told : Story → List Asked × Stand × Option Mark
told s = (lines_of s.asks, stand_of s.seen, s.mark)

-- ---- who takes part

abbrev pub caller : Addr
caller = record { ip = 3221225985; port = 5060 }

abbrev pub callee : Addr
callee = record { ip = 3221225993; port = 5060 }

abbrev pub proxy_address : Addr
proxy_address = record { ip = 2130706433; port = 5060 }

abbrev pub example_script : List (List Stmt) → Option ℕ → Script
example_script blocks reply = record {
  blocks = blocks;
  request = 0;
  reply = reply;
  vars = 0;
  patterns = [];
  tables = [];
  parameters = record { listen = None; aliases = []; max_while_loops = 100; max_recursive_level = 256; fr_timer = 30000; fr_inv_timer = 120000 };
}

abbrev pub example_proxy : List (List Stmt) → Proxy
example_proxy blocks = record {
  script = example_script blocks None;
  settings = record { listen = proxy_address; epoch = 0; slots = 2048; blocks = 8192; hosts = []; run_for = None };
  number = 0;
}

-- ---- their messages

abbrev pub invite : List ℕ
invite = codes "INVITE sip:b@192.0.2.9 SIP/2.0\r\nVia: SIP/2.0/UDP 192.0.2.1;branch=z9hG4bK6\r\nMax-Forwards: 70\r\nFrom: <sip:u@192.0.2.1>;tag=f\r\nTo: <sip:b@192.0.2.9>\r\nCall-ID: 6\r\nCSeq: 1 INVITE\r\nContent-Length: 0\r\n\r\n"

-- the start line of a response of a callee, and the number of the branch behind the slot and the generation 0
abbrev pub response : List ℕ → List ℕ → List ℕ
response line number =
    line ++ (codes "\r\nVia: SIP/2.0/UDP 127.0.0.1:5060;branch=z9hG4bKrs00000000.0.0." ++ (number
    ++ codes "\r\nVia: SIP/2.0/UDP 192.0.2.1;branch=z9hG4bK6\r\nFrom: <sip:u@192.0.2.1>;tag=f\r\nTo: <sip:b@192.0.2.9>;tag=t\r\nCall-ID: 6\r\nCSeq: 1 INVITE\r\nContent-Length: 0\r\n\r\n"))

-- ---- the beginning of a transaction

-- what comes after a request block that made this of what it was given; without a reading there is nothing
abbrev pub origin_of : Received → Origin
origin_of r = record { generation = 0; request = r; source = caller }

abbrev pub after_block : Proxy → (Received → RunState → RunState) → Received → Work → StepCourse
after_block p does r w =
    let s = does r (beginning (request_facts p w block.Request None)) in
    after_request p s.facts how.Normal (takes s w)

abbrev pub begins_with : Proxy → (Received → RunState → RunState) → Option Received → StepCourse
begins_with p does None = Ends (Aborted (SeenVacant 0))
begins_with p does (Some r) = after_block p does r (first_work p (origin_of r) 2 0)

abbrev pub begun : Proxy → (Received → RunState → RunState) → List ℕ → List Heard → Story
begun p does text hs = story (SeenVacant 0) (begins_with p does (reading text)) hs

-- a step on a request that has just come, with its two blocks
abbrev pub first_does : Proxy → (Work → StepCourse) → Option Received → StepCourse
first_does p does None = Ends (Aborted (SeenVacant 0))
first_does p does (Some r) = does (first_work p (origin_of r) 2 0)

-- and then this happens to it
abbrev pub then_comes : Proxy → Story → Happening → ℕ → List Heard → Story
then_comes p before what now hs = story before.seen (dialogue p before.seen 0 what now) hs

-- a response on a branch, of its callee
abbrev pub then_responds : Proxy → Story → ℕ → List ℕ → List ℕ → ℕ → List Heard → Story
then_responds p before n number line now hs = then_comes p before (happening.Reply n (response line number) callee) now hs

-- ---- what blocks do

-- the request goes to `$ru` and to these, and there are two blocks for each of them
abbrev pub relays_to : List Target → Received → RunState → RunState
relays_to targets r s =
    record (relayed r (with_facts s (record s.facts { targets = targets }))) { blocks = 2 + 2 * length targets }

abbrev pub target : List ℕ → Target
target uri = record { uri = uri; destination = None }

abbrev pub two_more : List Target
two_more = target (codes "sip:c@192.0.2.10") ∷ target (codes "sip:d@192.0.2.11") ∷ []

-- the same, after a branch block and a failure block were armed
abbrev pub with_blocks : Option ℕ → Option ℕ → RunState → RunState
with_blocks branch failure s = with_facts s (record s.facts { armed = record { branch = branch; failure = failure; reply = None } })

-- a transaction was made, and nothing decided
abbrev pub makes_nothing : Received → RunState → RunState
makes_nothing r s = with_facts s (with_transaction s.facts)

-- the request waits, under the serial 1
abbrev pub suspends : Received → RunState → RunState
suspends r s = with_facts s (waiting 1 (with_trying r (with_transaction s.facts)))

-- ---- short answers

abbrev pub sent_and_noted : List Heard
sent_and_noted = heard.Sent ∷ heard.Noted ∷ []

abbrev pub two_sent : List Heard
two_sent = heard.Sent ∷ sent_and_noted

abbrev pub three_sent : List Heard
three_sent = heard.Sent ∷ two_sent

-- ---- slots

-- an INVITE that was relayed to one callee, and to three
abbrev pub ringing : Story
ringing = begun (example_proxy []) (relays_to []) invite two_sent

abbrev pub forked : Story
forked = begun (example_proxy []) (relays_to two_more) invite (heard.Sent ∷ three_sent)

abbrev pub asleep : Story
asleep = begun (example_proxy ([] ∷ [])) suspends invite sent_and_noted

abbrev pub on_seen : Seen → ℕ → (Work → StepCourse) → StepCourse
on_seen (SeenVacant generation) now does = Ends (Aborted (SeenVacant generation))
on_seen (SeenLive live) now does = does (work_on live now)

-- a step that begins with this slot, and goes on so; a vacant one has none
abbrev pub on_slot : Story → ℕ → (Work → StepCourse) → List Heard → Story
on_slot before now does hs = story before.seen (on_seen before.seen now does) hs

abbrev pub others : ℕ → Addr
others n = record { ip = 3221225993 + n; port = 5060 }

-- the texts that go to an address
abbrev pub is_to : Addr → Addr → Bool
is_to a b = (a.ip == b.ip) && (a.port == b.port)

abbrev pub text_to : Addr → Asked → List (List ℕ)
text_to at (ask.Send to text) = if is_to at to then text ∷ [] else []
text_to at a = []

abbrev pub texts_to : Addr → List Asked → List (List ℕ)
texts_to at [] = []
texts_to at (a ∷ as') = text_to at a ++ texts_to at as'

-- what t_relay takes where the request goes to this URI alone
abbrev pub relay_to : List ℕ → Relay
relay_to uri = record { edits = []; uri = uri; destination = None; targets = []; absent_hops = None }

-- the first branch has failed with 486, and there are two blocks for another one
abbrev pub first_failed : Work → Work
first_failed w = record (noted 0 486 (over_client 0 w)) { blocks = w.blocks + 2 }

-- a state with these timers due
abbrev pub with_due : Option ℕ → Option ℕ → TxnState → TxnState
with_due suspension retry s = record s { suspension_due = suspension; server = record s.server { retry = retry } }

abbrev pub unsent_due : Option ℕ → TxnState → TxnState
unsent_due due s = record s { branches = change_at 0 (λ b. record b { unsent_due = due }) s.branches }

abbrev pub timer_in : ℕ → (TxnState → TxnState) → Seen → Option SlotTimer
timer_in now change (SeenVacant generation) = None
timer_in now change (SeenLive live) = timer_at now (change live.state)
