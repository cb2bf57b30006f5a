-- What the data of a transaction stand for.
use Rattle.std.specs.Prelude.{◌≡◌, ℕ, Bool, true, false, List, length, map, Option, Some, None, is_some, unwrap_or}
use Rattle.std.specs.List.{AllByRecursion}
use Rattle.buf_pool.specs.Ledgers.{LedgerName}
use Rattle.fork_core.specs.Responses.{History}
use Rattle.fork_core.specs.Histories.{HasHistory}
use Rattle.host_meaning.specs.Run.{Received}
use Rattle.txn_dialogue.specs.Slots.{Origin, TxnBranch, TxnState, Live, reading}
use Rattle.txn_dialogue.specs.Ending.{blocks_of}
use Rattle.txn_state.specs.declared.branch.Branch.{Branch}
use Rattle.txn_state.specs.declared.txn.Txn.{Txn}
use Rattle.txn_state.specs.declared.text_block.TextBlock.{TextBlock}
use Rattle.txn_state.specs.Texts.{pool_of, text_in}

-- the text in a block, where there is one
abbrev pub text_if : Bool → TextBlock → Option (List ℕ)
text_if true t = Some (text_in t)
text_if false t = None

-- Readings aren't kept: a text of a transaction is shown as it reads. One that doesn't read would be shown as this other one; there is
-- none.
abbrev pub as_read : Received → List ℕ → Received
as_read other text = unwrap_or (reading text) other

abbrev pub branch_shown : Received → Branch → TxnBranch
branch_shown request b = record {
  request = as_read request (text_in b.request);
  to = b.to;
  client = b.state.client;
  cancel = b.state.cancel;
  kept = text_if b.state.has_response b.response;
  is_cancelled = b.state.is_cancelled;
  unsent_due = b.state.unsent_due;
  final_due = b.state.final_due;
  quit_due = b.state.quit_due;
}

abbrev pub branches_shown : Received → List Branch → List TxnBranch
branches_shown request branches = map (branch_shown request) branches

abbrev pub origin_shown : Received → Txn → Origin
origin_shown request t = record { generation = t.generation; request = request; source = t.source }

abbrev pub state_shown : Received → History → Txn → TxnState
state_shown request h t = record {
  edits = t.script.edits;
  uri = t.script.uri;
  destination = t.script.destination;
  targets = t.script.targets;
  avps = t.script.avps;
  armed = t.script.armed;
  final_timers = t.script.final_timers;
  has_record_route = t.script.has_record_route;
  loose_route = t.script.loose_route;
  absent_hops = t.script.absent_hops;
  server = t.progress.server;
  last = text_if t.progress.has_response t.response;
  history = h;
  branches = branches_shown request t.branches.items;
  removed = t.progress.removed;
  suspension = t.progress.suspension;
  suspension_due = t.progress.suspension_due;
  label = t.script.label;
  suspensions = t.script.suspensions;
  is_cancelled = t.progress.is_cancelled;
  is_owed = t.progress.is_owed;
}

-- the blocks of the branches, each with its text: the request and the response
abbrev pub texts_of : List Branch → List (TextBlock × TextBlock)
texts_of branches = map (λ b. (b.request, b.response)) branches

-- the requests of the branches
abbrev pub requests_of : List Branch → List (List ℕ)
requests_of branches = map (λ b. text_in b.request) branches

-- the blocks of the branches are of this pool
abbrev pub AreOfPool : LedgerName → List Branch → Type 0
AreOfPool pool branches = AllByRecursion (λ t. (pool_of t.0 ≡ pool) × (pool_of t.1 ≡ pool)) (texts_of branches)

-- between its steps a transaction has no block but those of its texts
abbrev pub shown : Received → History → Txn → Live
shown request h t = record {
  origin = origin_shown request t;
  state = state_shown request h t;
  blocks = blocks_of (state_shown request h t);
}

-- each of these texts reads
abbrev pub AreReadable : List (List ℕ) → Type 0
AreReadable texts = AllByRecursion (λ text. is_some (reading text) ≡ true) texts

-- The data stand for this transaction: its request reads so, the requests of all branches read, the context stands for its history,
-- which has as many branches.
pub record Shows (t : Txn) (live : Live) : Type 0 where
  pub request : reading (text_in t.request) ≡ Some live.origin.request
  pub requests : AreReadable (requests_of t.branches.items)
  pub context : HasHistory t.context live.state.history
  pub count : length live.state.history.branches ≡ length t.branches.items
  pub same : shown live.origin.request live.state.history t ≡ live
