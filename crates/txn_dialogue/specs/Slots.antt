-- A slot as a reader sees it.
use Rattle.std.specs.Prelude.{ℕ, ℤ, zero, suc, Bool, false, List, [], ◌∷◌, Option, Some, None, if◌then◌else◌}
use Rattle.sip_words.specs.Words.{◌>>=◌}
use Rattle.outside_ports.specs.declared.port.Addr.{Addr}
use Rattle.msg_edits.specs.declared.parts.Edit.{Edit}
use Rattle.sip_msg.specs.declared.message.Message.{Message}
use Rattle.sip_msg.specs.Start.{start_of}
use Rattle.sip_msg.specs.Table.{head_of, end_of}
use Rattle.sip_msg.specs.Values.{via_of, name_addr_of, call_id_of, cseq_of, max_forwards_of}
use Rattle.sip_scan.specs.declared.field.Kind.TheVariants as kind
use Rattle.sip_build.specs.Parts.{part, uri_of}
use Rattle.cfg_tree.specs.declared.script.Script.{Script}
use Rattle.pv_table.specs.declared.avps.Avp.{Avp}
use Rattle.pv_table.specs.declared.facts.ArmedBlocks.{ArmedBlocks}
use Rattle.pv_table.specs.declared.facts.FinalTimers.{FinalTimers}
use Rattle.pv_table.specs.declared.facts.Target.{Target}
use Rattle.txn_client.specs.declared.machine.Client.{Client}
use Rattle.txn_server.specs.declared.machine.Server.{Server}
use Rattle.txn_server.specs.Rows.{new_server}
use Rattle.fork_core.specs.Responses.{History, at_first}
use Rattle.host_meaning.specs.declared.settings.Settings.{Settings}
use Rattle.host_meaning.specs.Run.{Received, received, is_readable}
use Rattle.host_meaning.specs.Transactions.{is_invite}

-- the message that a text reads as, each part by the grammar; none where it doesn't read
abbrev pub parts_read : List ℕ → Option Message
parts_read b = do
  head ← head_of b
  line ← start_of b
  via ← via_of b head.fields.items
  from ← name_addr_of kind.From b head.fields.items
  to ← name_addr_of kind.To b head.fields.items
  call_id ← call_id_of b head.fields.items
  cseq ← cseq_of b head.fields.items
  max_forwards ← max_forwards_of b head.fields.items
  end ← end_of b head
  Some record { head = head; start = line; via = via; from = from; to = to; call_id = call_id; cseq = cseq; max_forwards = max_forwards; end = end }

abbrev pub reading : List ℕ → Option Received
reading b = if is_readable b then parts_read b >>= (λ m. Some (received b m)) else None

-- whose slot it is: the script and the settings of the proxy, and the slot's number
pub record Proxy : Type 0 where
  pub script : Script
  pub settings : Settings
  pub number : ℕ

-- what no step changes in a transaction: its generation, the request as it was received, and where that came from
pub record Origin : Type 0 where
  pub generation : ℕ
  pub request : Received
  pub source : Addr

-- a branch: its request as it was sent, and to where; its client, and that of its CANCEL; the response of 300 to 699 that is
-- kept for it, as it goes on; whether it is to be cancelled; and when its timers X, `fr` and Q are due. The round of each branch
-- is in the history
pub record TxnBranch : Type 0 where
  pub request : Received
  pub to : Addr
  pub client : Client
  pub cancel : Option Client
  pub kept : Option (List ℕ)
  pub is_cancelled : Bool
  pub unsent_due : Option ℕ
  pub final_due : Option ℕ
  pub quit_due : Option ℕ

-- what steps change in a transaction
pub record TxnState : Type 0 where
  -- the script's part: edits, `$ru`, `$du`, the appended targets, AVPs, armed blocks, the two final timers, whether
  -- `record_route` was called, the code of `loose_route`, and the argument of `mf_process_maxfwd_header`
  pub edits : List Edit
  pub uri : List ℕ
  pub destination : Option (List ℕ)
  pub targets : List Target
  pub avps : List Avp
  pub armed : ArmedBlocks
  pub final_timers : FinalTimers
  pub has_record_route : Bool
  pub loose_route : Option ℤ
  pub absent_hops : Option ℕ
  -- the server, and the response that it repeats
  pub server : Server
  pub last : Option (List ℕ)
  -- the response context as its history, the branches, and how many targets were removed
  pub history : History
  pub branches : List TxnBranch
  pub removed : ℕ
  -- the open suspension's serial, when timer S is due, the last serial, and how many were opened
  pub suspension : Option ℕ
  pub suspension_due : Option ℕ
  pub label : Option ℕ
  pub suspensions : ℕ
  -- whether a CANCEL came, and whether a continuation is still to run after it
  pub is_cancelled : Bool
  pub is_owed : Bool

-- a transaction: also how many blocks it has
pub record Live : Type 0 where
  pub origin : Origin
  pub state : TxnState
  pub blocks : ℕ

pub data Seen : Type 0 where
  SeenVacant : (generation : ℕ) → Seen
  SeenLive : (live : Live) → Seen

abbrev pub generation_of : Seen → ℕ
generation_of (SeenVacant generation) = generation
generation_of (SeenLive live) = live.origin.generation

-- the URI of a request line
abbrev pub request_uri : Received → List ℕ
request_uri r = part r.bytes (uri_of r.message.start)

-- a transaction at its beginning
abbrev pub first_state : Proxy → Received → TxnState
first_state p r = record {
  edits = [];
  uri = request_uri r;
  destination = None;
  targets = [];
  avps = [];
  armed = record { branch = None; failure = None; reply = None };
  final_timers = record { invite = p.script.parameters.fr_inv_timer; other = p.script.parameters.fr_timer };
  has_record_route = false;
  loose_route = None;
  absent_hops = None;
  server = new_server (is_invite r);
  last = None;
  history = at_first (is_invite r);
  branches = [];
  removed = 0;
  suspension = None;
  suspension_due = None;
  label = None;
  suspensions = 0;
  is_cancelled = false;
  is_owed = false;
}

-- a list with the item at a place changed; one that isn't there is left
abbrev pub change_at : {A : Type 0} → ℕ → (A → A) → List A → List A
change_at n f [] = []
change_at zero f (x ∷ xs) = f x ∷ xs
change_at (suc n) f (x ∷ xs) = x ∷ change_at n f xs
