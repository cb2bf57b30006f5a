-- Words in which the laws of the written texts are said.
use Rattle.std.specs.Prelude.{◌≡◌, IfSome, ℕ, ◌+◌, ◌^◌, ◌<◌, List, ◌++◌, length, take, drop, Some, None, codes, [], ◌∷◌}
use Rattle.std.specs.Fmt.{decimal}
use Rattle.sip_words.specs.declared.bytes.Class.TheVariants.{Token}
use Rattle.sip_words.specs.Grammar.{IsWord}
use Rattle.sip_words.specs.Spans.{span}
use Rattle.sip_fields.specs.declared.host.Host.TheVariants.{V4}
use Rattle.sip_fields.specs.declared.via.Via.{Via}
use Rattle.sip_fields.specs.declared.via.Rport.TheVariants.{Absent}
use Rattle.sip_scan.specs.declared.field.HeaderSpan.{HeaderSpan}
use Rattle.sip_scan.specs.declared.field.Kind.TheVariants as kind
use Rattle.msg_edits.specs.declared.parts.Edit.{Edit}
use Rattle.msg_edits.specs.Edited.{inserted_at, edited_from}
use Rattle.sip_msg.specs.declared.message.Message.{Message}
use Rattle.sip_msg.specs.Fields.{first}
use Rattle.sip_msg.specs.Table.{Reads}
use Rattle.outside_ports.specs.declared.port.Addr.{Addr}
use Rattle.numerals.specs.Numerals.{dotted, socket}
use Rattle.sip_build.specs.Forwarded.{replaced, via_line, with_hops}
use Rattle.sip_build.specs.Parts.{part, uri_of}
use Rattle.sip_build.specs.Stamp.{stamp}

-- an address and a branch of which the proxy makes its line Via
pub record IsOwn (listen : Addr) (branch : List ℕ) : Type 0 where
  pub ip : listen.ip < 2 ^ 32
  pub some_port : 0 < listen.port
  pub port : listen.port < 2 ^ 16
  pub token : IsWord Token branch

-- the value of that line, behind `Via:`
abbrev pub own_value : Addr → List ℕ → List ℕ
own_value listen branch = codes " SIP/2.0/UDP " ++ (socket listen ++ (codes ";branch=" ++ branch))

-- what that value is, where it begins at i
abbrev pub own_via : ℕ → Addr → List ℕ → Via
own_via i listen branch =
    let host = i + 13 in
    let host_end = host + length (dotted listen.ip) in
    let at = host_end + 1 + length (decimal listen.port) + 8 in
    record {
      host = V4 listen.ip;
      host_at = span host host_end;
      port = Some listen.port;
      branch = Some (span at (at + length branch));
      rport = Absent;
      received = None;
      whole = span (i + 1) (at + length branch);
      next = None;
    }

-- the edits of a forwarded request without the line Via
abbrev pub other_edits : List ℕ → Message → Addr → List Edit → List ℕ → ℕ → List Edit
other_edits b m source edits uri absent =
    (stamp m.via source ++ replaced (uri_of m.start) uri)
    ++ (with_hops b (first kind.MaxForwards m.head.fields.items) m.max_forwards m.head.body absent ++ edits)

-- what an edited text has before a place, and from there on
abbrev pub before_place : List ℕ → List Edit → ℕ → List ℕ
before_place text edits place = edited_from edits 0 (take place text)

abbrev pub from_place : List ℕ → List Edit → ℕ → List ℕ
from_place text edits place = edited_from edits place (drop place text) ++ inserted_at edits (length text)

-- fields of one kind each, with the same bytes between their colons and their ends
abbrev pub SameFields : List ℕ → List HeaderSpan → List ℕ → List HeaderSpan → Type 0
SameFields b [] c [] = Unit {0}
SameFields b [] c (y ∷ ys) = ⊥
SameFields b (x ∷ xs) c [] = ⊥
SameFields b (x ∷ xs) c (y ∷ ys) = (x.kind ≡ y.kind) × (part b x.value ≡ part c y.value) × SameFields b xs c ys

-- the fields of the text c are those of b, and one more
pub record HasOneMore (b : List ℕ) (xs : List HeaderSpan) (c : List ℕ) (ys : List HeaderSpan) : Type 0 where
  pub before : List HeaderSpan
  pub one : HeaderSpan
  pub after : List HeaderSpan
  pub whole : ys ≡ before ++ (one ∷ after)
  pub same : SameFields b xs c (before ++ after)

-- the text c reads as a message whose top Via is the proxy's own, in the line that begins at a place; its start line, its other fields in order, the number of its CSeq and its Max-Forwards are those of m, and its body stands as many bytes behind as the line has
pub record ReadsUnder (b : List ℕ) (m : Message) (c : List ℕ) (place : ℕ) (listen : Addr) (branch : List ℕ) (under : Message) : Type 0 where
  pub reads : Reads c under
  pub via : under.via ≡ own_via (place + 4) listen branch
  pub token : IfSome under.via.branch (λ s. part c s ≡ branch)
  pub start : under.start ≡ m.start
  pub fields : HasOneMore b m.head.fields.items c under.head.fields.items
  pub number : under.cseq.number ≡ m.cseq.number
  pub max_forwards : under.max_forwards ≡ m.max_forwards
  pub body : under.head.body ≡ m.head.body + length (via_line listen branch)
  pub end : under.end ≡ m.end + length (via_line listen branch)

-- the fields of the text c are those of b without this one, before which none is a Via
pub record HasAllBut (b : List ℕ) (xs : List HeaderSpan) (field : HeaderSpan) (c : List ℕ) (ys : List HeaderSpan) : Type 0 where
  pub before : List HeaderSpan
  pub after : List HeaderSpan
  pub whole : xs ≡ before ++ (field ∷ after)
  pub none : first kind.Via before ≡ None
  pub same : SameFields c ys b (before ++ after)
