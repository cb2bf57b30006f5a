-- Datagrams that are of no slot, and which datagram is which: its handling.
use Rattle.std.specs.Prelude.{◌≡◌, ℕ, ◌==◌, Bool, true, false, not, ◌&&◌, ◌||◌, List, [], ◌∷◌, drop, length, Option, Some, None, is_some, nat_eq, nat_le, nat_lt, unwrap_or, ◌<◌, if◌then◌else◌, codes}
use Rattle.std.specs.List.{list_all, starts_with}
use Rattle.std.specs.Str.{bytes_eq, str_to_ascii_lowercase}
use Rattle.dialogue.specs.Course.{Course, Ends, Asks, and_then}
use Rattle.outside_ports.specs.declared.port.Addr.{Addr}
use Rattle.sip_scan.specs.Lines.{skipped}
use Rattle.sip_scan.specs.declared.field.Kind.TheVariants as kind
use Rattle.sip_msg.specs.Fields.{count}
use Rattle.sip_msg.specs.Basis.{basis_of}
use Rattle.sip_msg.specs.declared.basis.Basis.{Basis}
use Rattle.sip_msg.specs.declared.start.Start.{Start}
use Rattle.sip_msg.specs.declared.start.Start.TheVariants as start
use Rattle.sip_keys.specs.Branches.{branch_text, IsBranch}
use Rattle.sip_keys.specs.Keys.{branch_in}
use Rattle.sip_keys.specs.declared.branch.Branch.{Branch}
use Rattle.sip_build.specs.Addresses.{reply_address}
use Rattle.sip_build.specs.Reply.{reply_text, basis_reply_text}
use Rattle.txn_store.specs.declared.index.IndexEnd.TheVariants.{Old, New, Full}
use Rattle.host_meaning.specs.declared.ask.Asked.{Asked}
use Rattle.host_meaning.specs.declared.ask.Asked.TheVariants as ask
use Rattle.host_meaning.specs.declared.ask.Heard.{Heard}
use Rattle.host_meaning.specs.declared.settings.Settings.{Settings}
use Rattle.pv_table.specs.Reading.{default_port}
use Rattle.host_meaning.specs.Ours.{is_listening}
use Rattle.host_meaning.specs.Run.{Received, is_readable}
use Rattle.host_meaning.specs.Host.{HostEnd, Finished, RanOut, run_of}
use Rattle.host_meaning.specs.Responses.{is_ack}
use Rattle.host_meaning.specs.Transactions.{is_cancel}
use Rattle.txn_dialogue.specs.declared.mark.Mark.{Mark}
use Rattle.txn_dialogue.specs.declared.mark.Mark.TheVariants.{Handled, Dropped}
use Rattle.txn_dialogue.specs.declared.mark.Cause.{Cause}
use Rattle.txn_dialogue.specs.declared.mark.Cause.TheVariants as cause
use Rattle.txn_dialogue.specs.declared.happening.Happening.{Happening}
use Rattle.txn_dialogue.specs.declared.happening.Happening.TheVariants as happening
use Rattle.txn_dialogue.specs.declared.entry.IndexHeard.{IndexHeard}
use Rattle.txn_dialogue.specs.declared.entry.IndexHeard.TheVariants as index
use Rattle.txn_dialogue.specs.Slots.{Proxy, reading}
use Rattle.txn_dialogue.specs.Sends.{Sent}
use Rattle.txn_dialogue.specs.Runs.{around_of, beginning}
use Rattle.txn_dialogue.specs.Replies.{response_method}
use Rattle.txn_dialogue.specs.LooseRuns.{loose_facts, loosely_sent, loose_mark}

-- ---- what becomes of a datagram

-- something happens to a slot under a generation; or it runs `request_route` without a transaction; or it is answered at once by this
-- text; or it is dropped
pub data Handling : Type 0 where
  OfSlot : (slot generation : ℕ) → (what : Happening) → Handling
  Runs : (request : Received) → Handling
  Answers : (to : Addr) → (text : List ℕ) → (fits : Bool) → Handling
  Drops : (why : Cause) → Handling

abbrev pub is_line_end : ℕ → Bool
is_line_end b = (b == 13) || (b == 10)

-- empty, or CR and LF alone
abbrev pub is_keepalive : List ℕ → Bool
is_keepalive b = list_all is_line_end b

-- ---- what doesn't read

abbrev pub begins_as_response : List ℕ → Bool
begins_as_response b = starts_with nat_eq (str_to_ascii_lowercase (drop (skipped b) b)) (codes "sip/")

abbrev pub fault_code : Basis → ℕ
fault_code basis = if not basis.version_ok then 505 else if basis.too_long then 513 else 400

abbrev pub fault_reason : Basis → List ℕ
fault_reason basis =
    if not basis.version_ok then codes "Version Not Supported"
    else if basis.too_long then codes "Message Too Large"
    else codes "Bad Request"

-- the response to a malformed request needn't read: it is sent where it isn't too long
abbrev pub answers_fault : List ℕ → Addr → Basis → Handling
answers_fault b source basis =
    let text = basis_reply_text b basis source (fault_code basis) (fault_reason basis) in
    Answers (reply_address basis.via source) text (nat_le (length text) 8192)

abbrev pub malformed : List ℕ → Addr → Option Basis → Handling
malformed b source None = Drops (if begins_as_response b then cause.BadReply else cause.NotSip)
malformed b source (Some basis) = answers_fault b source basis

-- ---- responses

-- another Via value stands below the top one
abbrev pub has_more_vias : Received → Bool
has_more_vias r = is_some r.message.via.next || nat_lt 1 (count kind.Via r.message.head.fields.items)

-- A response is the proxy's where its top Via is one that the proxy wrote and, unless it is to a CANCEL, another value stands below
-- (RFC 3261, sections 16.7, step 3, and 18.1.2).
abbrev pub is_own_response : Settings → Received → Bool
is_own_response settings r =
    is_listening settings.listen r.message.via.host (unwrap_or r.message.via.port default_port) && (bytes_eq (response_method r) (codes "CANCEL") || has_more_vias r)

-- the branch whose text this is: none is another's
pub record IsBranchOf (settings : Settings) (r : Received) (branch : Branch) : Type 0 where
  pub bounds : IsBranch branch
  pub text : branch_in r.bytes r.message.via.branch ≡ branch_text settings.epoch branch

abbrev pub is_response_line : Start → Bool
is_response_line (start.Request method uri) = false
is_response_line (start.Status code reason) = true

-- a response that reads, and that is the proxy's or isn't
abbrev pub IsOwn : Proxy → Received → Bool → Type 0
IsOwn p r own = (is_response_line r.message.start ≡ true) × (is_own_response p.settings r ≡ own)

-- a slot that the proxy has
abbrev pub HasSlot : Proxy → Branch → Type 0
HasSlot p branch = branch.slot < p.settings.slots

-- ---- requests

-- a request that runs without a transaction, or that has one of its own
abbrev pub IsRequestOf : Received → (ack cancel : Bool) → Type 0
IsRequestOf r ack cancel = (is_response_line r.message.start ≡ false) × (is_ack r ≡ ack) × (is_cancel r ≡ cancel)

-- every slot holds another key: 503
abbrev pub unavailable_text : Received → Addr → List ℕ
unavailable_text r source = reply_text r.bytes r.message source 503 (codes "Service Unavailable")

abbrev pub answers_full : Received → Addr → Handling
answers_full r source =
    Answers (reply_address r.message.via source) (unavailable_text r source) (is_readable (unavailable_text r source))

-- Which datagram is which, with what the index answered where it was asked.
pub data Handles (p : Proxy) (b : List ℕ) (source : Addr) : IndexHeard → Handling → Type 0 where
  -- It is empty, or holds only CR and LF.
  keepalive : is_keepalive b ≡ true → Handles p b source index.Unasked (Drops cause.Keepalive)
  -- It doesn't read: it is answered where it can be.
  unread : is_keepalive b ≡ false → reading b ≡ None → Handles p b source index.Unasked (malformed b source (basis_of b))
  -- A response on a branch of the proxy's goes to its slot.
  response : (r : Received) (branch : Branch) → reading b ≡ Some r → IsOwn p r true → IsBranchOf p.settings r branch → HasSlot p branch
      → Handles p b source index.Unasked (OfSlot branch.slot branch.generation (happening.Reply branch.b b source))
  -- Any other is a stray one: it isn't the proxy's, or its branch is none of this epoch or of a slot that the proxy has not.
  stray : (r : Received) → reading b ≡ Some r → IsOwn p r false → Handles p b source index.Unasked (Drops cause.StrayReply)
  branchless : (r : Received) → reading b ≡ Some r → IsOwn p r true
      → ((branch : Branch) → IsBranchOf p.settings r branch → ¬ HasSlot p branch)
      → Handles p b source index.Unasked (Drops cause.StrayReply)
  -- An ACK goes to the slot of its INVITE; without one it runs `request_route` (RFC 3261, section 17.2.3).
  ack : (r : Received) (slot generation : ℕ) → reading b ≡ Some r → IsRequestOf r true false
      → Handles p b source (index.Found (Some (slot, generation))) (OfSlot slot generation (happening.Ack b source))
  loose_ack : (r : Received) → reading b ≡ Some r → IsRequestOf r true false → Handles p b source (index.Found None) (Runs r)
  -- A CANCEL runs `request_route`.
  cancel : (r : Received) → reading b ≡ Some r → IsRequestOf r false true → Handles p b source index.Unasked (Runs r)
  -- Any other request claims its key: it is the request of a transaction again, or begins one, or there is no room or no memory.
  copy : (r : Received) (slot generation : ℕ) → reading b ≡ Some r → IsRequestOf r false false
      → Handles p b source (index.Claimed (Old slot generation)) (OfSlot slot generation happening.Copy)
  request : (r : Received) (slot generation : ℕ) → reading b ≡ Some r → IsRequestOf r false false
      → Handles p b source (index.Claimed (New slot generation)) (OfSlot slot generation (happening.Request b source))
  full : (r : Received) → reading b ≡ Some r → IsRequestOf r false false
      → Handles p b source (index.Claimed Full) (answers_full r source)
  short : (r : Received) → reading b ≡ Some r → IsRequestOf r false false
      → Handles p b source index.NoMemory (Drops cause.NoMemory)

-- ---- the dialogue of a datagram without a slot

pub data LooseEnd : Type 0 where
  LooseDone : (mark : Mark) → LooseEnd
  LooseAborted : LooseEnd

abbrev pub LooseCourse : Type 0
LooseCourse = Course Asked Heard LooseEnd

abbrev pub loosely_sending : List Sent → Mark → LooseCourse
loosely_sending [] mark = Ends (LooseDone mark)
loosely_sending (d ∷ ds) mark = Asks (ask.Send d.to d.text) (λ h. loosely_sending ds mark)

abbrev pub loosely_ended : Proxy → Received → Addr → HostEnd → LooseCourse
loosely_ended p r source (Finished s h) = loosely_sending (loosely_sent p r source s.facts []) (loose_mark r source s.facts h)
loosely_ended p r source (RanOut k) = Ends LooseAborted

-- a run, and then what it decided is sent; a response that is made at once is sent where it isn't too long
abbrev pub loose_dialogue : Proxy → Addr → Handling → LooseCourse
loose_dialogue p source (OfSlot slot generation what) = Ends (LooseDone Handled)
loose_dialogue p source (Runs r) =
    and_then (run_of p.script p.script.request (around_of p r) (beginning (loose_facts p r source))) (loosely_ended p r source)
loose_dialogue p source (Answers to text true) = Asks (ask.Send to text) (λ h. Ends (LooseDone Handled))
loose_dialogue p source (Answers to text false) = Ends (LooseDone (Dropped cause.TooLong))
loose_dialogue p source (Drops why) = Ends (LooseDone (Dropped why))
