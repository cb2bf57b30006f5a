-- The texts that a step sends, by what they are made of.
use Rattle.std.specs.Prelude.{ℕ, List, [], Option, Some, None, IfSome, slice_get, unwrap_or}
use Rattle.outside_ports.specs.declared.port.Addr.{Addr}
use Rattle.sip_msg.specs.Table.{Reads}
use Rattle.sip_build.specs.Reply.{reply_text}
use Rattle.sip_build.specs.Hop.{ack_text, cancel_text}
use Rattle.host_meaning.specs.Run.{Received, received}
use Rattle.txn_dialogue.specs.Slots.{reading}
use Rattle.txn_dialogue.specs.Sends.{repeated_text}
use Rattle.txn_state.specs.declared.txn.Txn.{Txn}
use Rattle.txn_state.specs.Texts.{text_in}
use Rattle.txn_state.specs.Kept.{requests_of, text_if}
use Rattle.txn_texts.specs.declared.out_text.OutText.{OutText}
use Rattle.txn_texts.specs.declared.out_text.OutText.TheVariants.{Made, Stateless, Passed, Repeated, Request, Ack, Cancel}
use Rattle.txn_texts.specs.declared.sources.Came.{Came}
use Rattle.txn_texts.specs.declared.sources.Readings.{Readings}
use Rattle.txn_texts.specs.declared.sources.Sources.{Sources}
use Rattle.txn_texts.specs.Reasons.{reason_text}

-- a message that came, and where it came from
pub record Arrived : Type 0 where
  pub message : Received
  pub source : Addr

-- what the texts of a step are made of: the request and where it came from, the response that the server repeats, the requests of the
-- branches, the message that came, and the text that goes on
pub record Parts : Type 0 where
  pub request : Received
  pub source : Addr
  pub repeated : Option (List ℕ)
  pub requests : List (List ℕ)
  pub came : Option Arrived
  pub passed : List ℕ

-- nothing where there is no such branch
abbrev pub request_at : List (List ℕ) → ℕ → List ℕ
request_at requests n = unwrap_or (slice_get requests n) []

abbrev pub cancel_for : Option Received → List ℕ
cancel_for None = []
cancel_for (Some r) = cancel_text r.bytes r.message

abbrev pub ack_between : Option Received → Option Arrived → List ℕ
ack_between None came = []
ack_between (Some r) None = []
ack_between (Some r) (Some a) = ack_text r.bytes r.message a.message.bytes a.message.message

abbrev pub stateless_for : Option Arrived → ℕ → List ℕ → List ℕ
stateless_for None code reason = []
stateless_for (Some a) code reason = reply_text a.message.bytes a.message.message a.source code reason

abbrev pub text_of : Parts → OutText → List ℕ
text_of p (Made code reason) = reply_text p.request.bytes p.request.message p.source code (reason_text reason)
text_of p (Stateless code reason) = stateless_for p.came code (reason_text reason)
text_of p Passed = p.passed
text_of p Repeated = repeated_text p.repeated
text_of p (Request n) = request_at p.requests n
text_of p (Ack n) = ack_between (reading (request_at p.requests n)) p.came
text_of p (Cancel n) = cancel_for (reading (request_at p.requests n))

-- ---- the parts in the code's hands

abbrev pub seen_of : Option Came → Option Arrived
seen_of None = None
seen_of (Some m) = Some (record { message = received m.bytes.now m.message.now; source = m.source })

-- of a transaction, the readings of its messages, and the text that goes on
abbrev pub parts_of : Txn → Readings → List ℕ → Parts
parts_of t r passed = record {
  request = received (text_in t.request) r.request.now;
  source = t.source;
  repeated = text_if t.progress.has_response t.response;
  requests = requests_of t.branches.items;
  came = seen_of r.came;
  passed = passed;
}

abbrev pub IsSeen : Option Came → Type 0
IsSeen m = IfSome (seen_of m) (λ a. Reads a.message.bytes a.message.message)

-- the readings are those of the transaction's request and of the message that came
pub record IsRead (t : Txn) (r : Readings) : Type 0 where
  pub request : Reads (text_in t.request) r.request.now
  pub came : IsSeen r.came

abbrev pub AreRead : Sources → Type 0
AreRead s = IsRead s.txn.now s.readings

abbrev pub parts_from : Sources → List ℕ → Parts
parts_from s passed = parts_of s.txn.now s.readings passed
