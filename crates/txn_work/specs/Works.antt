-- What the data of a step stand for.
use Rattle.std.specs.Prelude.{◌≡◌, ℕ, ◌+◌, ◌*◌, List, [], length, Option, Some, None, vec_len}
use Rattle.std.specs.List.{AllByRecursion}
use Rattle.buf_pool.specs.Ledgers.{LedgerName}
use Rattle.fork_core.specs.Responses.{History}
use Rattle.fork_core.specs.Histories.{HasHistory}
use Rattle.host_meaning.specs.Run.{Received, received}
use Rattle.sip_build.specs.Hop.{ack_text, cancel_text}
use Rattle.txn_client.specs.declared.machine.Client.{Client}
use Rattle.txn_client.specs.declared.machine.ClientEvent.{ClientEvent}
use Rattle.txn_client.specs.After.{client_after}
use Rattle.txn_dialogue.specs.Slots.{TxnBranch, TxnState}
use Rattle.txn_dialogue.specs.Sends.{Work as Decided, sent_if}
use Rattle.txn_dialogue.specs.Replies.{to_cancel_client}
use Rattle.txn_state.specs.declared.txn.Txn.{Txn}
use Rattle.txn_state.specs.Texts.{pool_of, text_in}
use Rattle.txn_state.specs.Kept.{AreOfPool, AreReadable, requests_of, text_if, origin_shown, state_shown}
use Rattle.txn_texts.specs.declared.sources.Readings.{Readings}
use Rattle.txn_texts.specs.Texts.{Arrived, Parts, parts_of}
use Rattle.txn_texts.specs.Desks.{last_on, passed_on}
use Rattle.txn_texts.specs.Outboxes.{AllRead, sends_shown}
use Rattle.txn_work.specs.declared.work.Work.{Work}

abbrev pub request_in : Txn → Readings → Received
request_in t r = received (text_in t.request) r.request.now

-- what the texts are made of
abbrev pub parts_in : Txn → Readings → Work → Parts
parts_in t r w = parts_of t r (passed_on w.desk)

-- the response that the server repeats is the one on the desk, where this step has decided one
abbrev pub state_so_far : Txn → Readings → Work → History → TxnState
state_so_far t r w h = record (state_shown (request_in t r) h t) { last = last_on w.desk (text_if t.progress.has_response t.response) }

-- What a step has decided so far, by its data, the history of the response context, and the transaction as an abort puts it back. Its
-- blocks are two for the request and the response, two for each branch, and those that it has besides.
abbrev pub work_shown : Txn → Readings → Work → History → TxnState → Decided
work_shown t r w h base = record {
  origin = origin_shown (request_in t r) t;
  state = state_so_far t r w h;
  base = base;
  blocks = 2 + 2 * length t.branches.items + vec_len w.spare;
  first = w.first;
  exists = w.exists;
  sends = sends_shown (parts_in t r w) w.outbox;
  continued = w.continued;
  is_continuation = w.is_continuation;
  now = w.time;
}

-- the ACK for the response that came to the request of a branch; where none came it is empty
abbrev pub ack_for : TxnBranch → Option Arrived → List ℕ
ack_for b None = []
ack_for b (Some a) = ack_text b.request.bytes b.request.message a.message.bytes a.message.message

-- an event happens to the client of a CANCEL: it is sent again, where the client says so
abbrev pub cancel_stepped : ℕ → TxnBranch → Client → ClientEvent → Decided → Decided
cancel_stepped n b c event w =
    record (to_cancel_client n c event w) {
      sends = sent_if (client_after c event w.now).1.send b.to (cancel_text b.request.bytes b.request.message) None w.sends;
    }

-- the blocks of the step are of this pool
pub record IsOfPool (pool : LedgerName) (t : Txn) (w : Work) : Type 0 where
  pub request : pool_of t.request ≡ pool
  pub response : pool_of t.response ≡ pool
  pub branches : AreOfPool pool t.branches.items
  pub spare : AllByRecursion (λ b. b.pool ≡ pool) w.spare.items

-- The data of a step stand for what it has decided so far: the context stands for its history, which has as many branches; the requests of
-- the branches read, and so do the texts that are left to send; the blocks are of the pool.
pub record Shows (pool : LedgerName) (t : Txn) (r : Readings) (w : Work) (d : Decided) : Type 0 where
  pub context : HasHistory t.context d.state.history
  pub count : length d.state.history.branches ≡ length t.branches.items
  pub requests : AreReadable (requests_of t.branches.items)
  pub sends : AllRead (parts_in t r w) w.outbox
  pub pools : IsOfPool pool t w
  pub same : work_shown t r w d.state.history d.base ≡ d
