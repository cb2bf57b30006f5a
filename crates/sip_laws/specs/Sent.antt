-- What is said of the messages that the proxy sends: that they read, and as what (RFC 3261, sections 8.2.6, 9.1, 16.6, 16.7 and 17.1.1.3).
use Rattle.std.specs.Prelude.{◌≡◌, ◌≢◌, false, ℕ, ◌+◌, ◌-◌, ◌≤◌, ◌++◌, List, [], ◌∷◌, Option, Some, None, IfSome, cond, codes, drop, length, take, slice_range, if◌then◌else◌}
use Rattle.std.specs.List.{filter, flat_map}
use Rattle.sip_words.specs.declared.Span.{Span}
use Rattle.sip_fields.specs.declared.via.Via.{Via}
use Rattle.sip_fields.specs.Via.{via_at}
use Rattle.sip_scan.specs.declared.field.HeaderSpan.{HeaderSpan}
use Rattle.sip_scan.specs.declared.field.Kind.{Kind}
use Rattle.sip_scan.specs.declared.field.Kind.TheVariants as kind
use Rattle.sip_msg.specs.declared.message.Message.{Message}
use Rattle.sip_msg.specs.declared.start.Start.{Start}
use Rattle.sip_msg.specs.declared.start.Start.TheVariants.{Request, Status}
use Rattle.sip_msg.specs.Fields.{is_of, first, count}
use Rattle.sip_msg.specs.Table.{Reads}
use Rattle.sip_msg.specs.Values.{via_of}
use Rattle.sip_scan.specs.Field.{is_same_kind}
use Rattle.sip_words.specs.Grammar.{named_tree}
use Rattle.sip_fields.specs.NameAddrGrammar.{NameAddrTree, name_addr, IsNameAddr}
use Rattle.outside_ports.specs.declared.port.Addr.{Addr}
use Rattle.sip_build.specs.Parts.{part, field_text, edited_vias, uri_of}
use Rattle.sip_build.specs.Reply.{gives_tag, reply_tag, reply_to_field}
use Rattle.sip_build.specs.Stamp.{stamp}
use Rattle.sip_build.specs.Forwarded.{via_line}
use Rattle.sip_build.specs.Laws.{own_value, own_via}

-- the bytes of a part that may be absent
abbrev pub bytes_at : List ℕ → Option Span → Option (List ℕ)
bytes_at b None = None
bytes_at b (Some s) = Some (part b s)

-- a Via value of the text b names the same sender and branch as one of the text c
pub record SameVia (b : List ℕ) (v : Via) (c : List ℕ) (w : Via) : Type 0 where
  pub host : v.host ≡ w.host
  pub host_bytes : part b v.host_at ≡ part c w.host_at
  pub port : v.port ≡ w.port
  pub branch : bytes_at b v.branch ≡ bytes_at c w.branch

-- a request line
abbrev pub IsRequestLine : List ℕ → Start → List ℕ → List ℕ → Type 0
IsRequestLine c (Request method uri) m u = (part c method ≡ m) × (part c uri ≡ u)
IsRequestLine c (Status code reason) m u = ⊥

-- a status line
abbrev pub IsStatusLine : List ℕ → Start → ℕ → List ℕ → Type 0
IsStatusLine c (Request method uri) n r = ⊥
IsStatusLine c (Status code reason) n r = (code ≡ n) × (part c reason ≡ r)

abbrev pub IsRequest : Start → Type 0
IsRequest (Request method uri) = Unit {0}
IsRequest (Status code reason) = ⊥

-- the field of a kind that stands once, with its name and bytes
abbrev pub the_field : Kind → List ℕ → Message → List ℕ
the_field k b m = field_text b (first k m.head.fields.items)

-- all fields of a kind, in order, with their names and bytes
abbrev pub all_fields : Kind → List ℕ → Message → List ℕ
all_fields k b m = flat_map (λ (f : HeaderSpan). part b f.whole) (filter (is_of k) m.head.fields.items)

-- the text c reads as a request of this method on the way of the request m, which was sent as b: an ACK or a CANCEL.
-- Its one Via value is the top one of m, it has the URI, the Route fields, From and Call-ID of m, the number of its CSeq and this To, and no body
pub record IsOnItsWay (method : List ℕ) (b : List ℕ) (m : Message) (its_to : List ℕ) (c : List ℕ) (w : Message) : Type 0 where
  pub reads : Reads c w
  pub line : IsRequestLine c w.start method (part b (uri_of m.start))
  pub via : SameVia b m.via c w.via
  pub top_value : part c w.via.whole ≡ part b m.via.whole
  pub one_via : all_fields kind.Via c w ≡ codes "Via: " ++ (part b m.via.whole ++ codes "\r\n")
  pub route : all_fields kind.Route c w ≡ all_fields kind.Route b m
  pub from : the_field kind.From c w ≡ the_field kind.From b m
  pub to : the_field kind.To c w ≡ its_to
  pub call_id : the_field kind.CallId c w ≡ the_field kind.CallId b m
  pub number : w.cseq.number ≡ m.cseq.number
  pub cseq_method : part c w.cseq.method ≡ method
  pub max_forwards : w.max_forwards ≡ Some 70
  pub body : w.end ≡ w.head.body

abbrev pub IsResponse : Start → Type 0
IsResponse (Request method uri) = ⊥
IsResponse (Status code reason) = Unit {0}

-- the fields behind the first of a kind
abbrev pub behind_first : Kind → List HeaderSpan → List HeaderSpan
behind_first k [] = []
behind_first k (f ∷ fs) = cond (is_of k f) fs (behind_first k fs)

-- a Via value behind a comma in the field
abbrev pub value_behind : List ℕ → Option HeaderSpan → ℕ → Option Via
value_behind b None next = None
value_behind b (Some f) next = via_at (take f.value.to b) next

-- the Via value below the top one: behind its comma, or the first one of the second Via field
abbrev pub value_below : List ℕ → List HeaderSpan → Option ℕ → Option Via
value_below b fields None = via_of b (behind_first kind.Via fields)
value_below b fields (Some next) = value_behind b (first kind.Via fields) next

abbrev pub second_via : List ℕ → Message → Option Via
second_via b m = value_below b m.head.fields.items m.via.next

-- the field of the top Via value without it, its comma and the LWS behind that; nothing where the value is alone there
abbrev pub field_left : List ℕ → Via → Option ℕ → Option HeaderSpan → List ℕ
field_left b v None field = []
field_left b v (Some next) None = []
field_left b v (Some next) (Some f) = slice_range b f.whole.from v.whole.from ++ slice_range b next f.whole.to

-- the Via fields without the top value
abbrev pub vias_below : List ℕ → Message → List ℕ
vias_below b m = field_left b m.via m.via.next (first kind.Via m.head.fields.items) ++ flat_map (λ (f : HeaderSpan). part b f.whole) (filter (is_of kind.Via) (behind_first kind.Via m.head.fields.items))

-- the text c reads as the response m, which was received as b, without its top Via value: v is on top, and the start
-- line, all other fields in order, their values and the body are as received
pub record IsRelayed (b : List ℕ) (m : Message) (v : Via) (c : List ℕ) (w : Message) : Type 0 where
  pub reads : Reads c w
  pub start : w.start ≡ m.start
  pub start_line : part c w.head.start ≡ part b m.head.start
  pub via : SameVia b v c w.via
  pub vias : all_fields kind.Via c w ≡ vias_below b m
  pub fields : length w.head.fields.items ≤ length m.head.fields.items
  pub others : (k : Kind) → is_same_kind k kind.Via ≡ false → all_fields k c w ≡ all_fields k b m
  pub number : w.cseq.number ≡ m.cseq.number
  pub cseq_method : part c w.cseq.method ≡ part b m.cseq.method
  pub to_tag : bytes_at c w.to.tag ≡ bytes_at b m.to.tag
  pub max_forwards : w.max_forwards ≡ m.max_forwards
  pub body : slice_range c w.head.body w.end ≡ slice_range b m.head.body m.end

-- To has no parameter `tag` without a value: a tag that is put behind one isn't the first
abbrev pub NoBareTag : List ℕ → Message → Type 0
NoBareTag b m = (f : HeaderSpan) (t : NameAddrTree) → first kind.To m.head.fields.items ≡ Some f → IsNameAddr t → drop f.value.from (take f.value.to b) ≡ name_addr t
    → IfSome (named_tree (codes "tag") t.params) (λ p. p.value ≢ None)

-- the text c reads as the proxy's response, with this code and reason, to the request m, which was received as b from a source: its Via fields are
-- those of m in order, the top value stamped; it has From, Call-ID and CSeq of m, To of m, with a tag unless the code is 100, and no body
pub record IsReply (b : List ℕ) (m : Message) (source : Addr) (code : ℕ) (reason : List ℕ) (c : List ℕ) (w : Message) : Type 0 where
  pub reads : Reads c w
  pub line : IsStatusLine c w.start code reason
  pub via : SameVia b m.via c w.via
  pub vias : all_fields kind.Via c w ≡ edited_vias b (stamp m.via source) m.head.fields.items
  pub fields : length w.head.fields.items ≡ count kind.Via m.head.fields.items + 5
  pub from : the_field kind.From c w ≡ the_field kind.From b m
  pub to : the_field kind.To c w ≡ reply_to_field b (first kind.To m.head.fields.items) (Some m.to) code (reply_tag b m.via.branch)
  pub to_tag : NoBareTag b m → bytes_at c w.to.tag ≡ (if gives_tag code m.to then Some (reply_tag b m.via.branch) else bytes_at b m.to.tag)
  pub call_id : the_field kind.CallId c w ≡ the_field kind.CallId b m
  pub cseq : the_field kind.CSeq c w ≡ the_field kind.CSeq b m
  pub number : w.cseq.number ≡ m.cseq.number
  pub cseq_method : part c w.cseq.method ≡ part b m.cseq.method
  pub body : w.end ≡ w.head.body

-- the method of a request line
abbrev pub method_in : List ℕ → Start → List ℕ
method_in b (Request method uri) = part b method
method_in b (Status code reason) = []

-- Max-Forwards of a forwarded request: one less, or this number where the request has none
abbrev pub hops_left : Option ℕ → ℕ → ℕ
hops_left None absent = absent
hops_left (Some hops) absent = hops - 1

-- with how many fields a request can be forwarded: the proxy adds its Via, and Max-Forwards where it is absent
abbrev pub most_fields : Option ℕ → ℕ
most_fields None = 126
most_fields (Some hops) = 127

-- the text c reads as the request m, which was received as b from a source, forwarded to a URI: the proxy's Via is on top, with the address on which it listens
-- and its branch; below it stand the Via fields of m in order, the top value stamped; it has the method of m, the URI and one hop less, and all other fields in
-- order, their values and the body as received
pub record IsForwarded (b : List ℕ) (m : Message) (source : Addr) (uri : List ℕ) (listen : Addr) (branch : List ℕ) (absent : ℕ) (c : List ℕ) (w : Message) : Type 0 where
  pub reads : Reads c w
  pub line : IsRequestLine c w.start (method_in b m.start) uri
  pub via : SameVia (own_value listen branch) (own_via 0 listen branch) c w.via
  pub vias : all_fields kind.Via c w ≡ via_line listen branch ++ edited_vias b (stamp m.via source) m.head.fields.items
  pub max_forwards : w.max_forwards ≡ Some (hops_left m.max_forwards absent)
  pub others : (k : Kind) → is_same_kind k kind.Via ≡ false → is_same_kind k kind.MaxForwards ≡ false → all_fields k c w ≡ all_fields k b m
  pub counts : (k : Kind) → is_same_kind k kind.Via ≡ false → is_same_kind k kind.MaxForwards ≡ false → count k w.head.fields.items ≡ count k m.head.fields.items
  pub number : w.cseq.number ≡ m.cseq.number
  pub cseq_method : part c w.cseq.method ≡ part b m.cseq.method
  pub to_tag : bytes_at c w.to.tag ≡ bytes_at b m.to.tag
  pub body : slice_range c w.head.body w.end ≡ slice_range b m.head.body m.end

-- the text c reads as the request m, which was read in b, with the proxy's Via on top: the start line, all other fields in order, their values and the body are
-- as they were
pub record IsUnderVia (b : List ℕ) (m : Message) (listen : Addr) (branch : List ℕ) (c : List ℕ) (w : Message) : Type 0 where
  pub reads : Reads c w
  pub start : w.start ≡ m.start
  pub start_line : part c w.head.start ≡ part b m.head.start
  pub via : SameVia (own_value listen branch) (own_via 0 listen branch) c w.via
  pub vias : all_fields kind.Via c w ≡ via_line listen branch ++ all_fields kind.Via b m
  pub others : (k : Kind) → is_same_kind k kind.Via ≡ false → all_fields k c w ≡ all_fields k b m
  pub counts : (k : Kind) → is_same_kind k kind.Via ≡ false → count k w.head.fields.items ≡ count k m.head.fields.items
  pub number : w.cseq.number ≡ m.cseq.number
  pub cseq_method : part c w.cseq.method ≡ part b m.cseq.method
  pub to_tag : bytes_at c w.to.tag ≡ bytes_at b m.to.tag
  pub max_forwards : w.max_forwards ≡ m.max_forwards
  pub body : slice_range c w.head.body w.end ≡ slice_range b m.head.body m.end

-- the text c reads as the response m, which was written as b, with a new field of no kind that is read behind all others; the start line, the other fields in
-- order, their values and the body are as they were
pub record HasField (b : List ℕ) (m : Message) (new : List ℕ) (c : List ℕ) (w : Message) : Type 0 where
  pub reads : Reads c w
  pub start : w.start ≡ m.start
  pub start_line : part c w.head.start ≡ part b m.head.start
  pub via : SameVia b m.via c w.via
  pub added : all_fields kind.Other c w ≡ all_fields kind.Other b m ++ new
  pub others : (k : Kind) → is_same_kind k kind.Other ≡ false → all_fields k c w ≡ all_fields k b m
  pub fields : length w.head.fields.items ≡ length m.head.fields.items + 1
  pub number : w.cseq.number ≡ m.cseq.number
  pub cseq_method : part c w.cseq.method ≡ part b m.cseq.method
  pub to_tag : bytes_at c w.to.tag ≡ bytes_at b m.to.tag
  pub max_forwards : w.max_forwards ≡ m.max_forwards
  pub body : slice_range c w.head.body w.end ≡ slice_range b m.head.body m.end
