-- Where the parts of a message lie that variables read.
use Rattle.std.proofs.Common.{◌≡◌, ℕ, ◌+◌, ◌≤◌, List, length, arith, subst, Some, None}
use Rattle.std.specs.Prelude.{All, Option, IfSome}
use Rattle.sip_words.specs.declared.Span.{Span}
use Rattle.sip_words.specs.Spans.{IsBetween, IsWithin}
use Rattle.sip_words.proofs.Steps.{bind_some}
use Rattle.sip_fields.specs.declared.name_addr.NameAddr.{NameAddr}
use Rattle.sip_fields.specs.declared.cseq.CSeq.{CSeq}
use Rattle.sip_fields.specs.NameAddr.{IsNameAddrBetween}
use Rattle.sip_fields.specs.CSeq.{IsCSeqBetween}
use Rattle.sip_scan.specs.declared.field.HeaderSpan.{HeaderSpan}
use Rattle.sip_scan.specs.declared.field.Kind.{Kind}
use Rattle.sip_scan.specs.declared.field.Kind.TheVariants as kind
use Rattle.sip_scan.specs.Field.{IsField}
use Rattle.sip_msg.specs.declared.message.Message.{Message}
use Rattle.sip_msg.specs.declared.start.Start.{Start}
use Rattle.sip_msg.specs.declared.start.Start.TheVariants.{Request, Status}
use Rattle.sip_msg.specs.Fields.{first}
use Rattle.sip_msg.specs.Values.{name_addr_of, call_id_of, cseq_of}
use Rattle.sip_msg.specs.Start.{IsStartBetween}
use Rattle.sip_msg.specs.Places.{InFirst}
use Rattle.sip_msg.specs.Table.{Reads}
use Rattle.sip_msg.proofs.Firsts.{found_is}
use Rattle.sip_msg.proofs.Lies.{lies}

pub fields_are : (b : List ℕ) (m : Message) → Reads b m → All (IsField b) m.head.fields.items
fields_are b m r = (lies b m r).head.each

-- the field from which a part is read
name_addr_field : (k : Kind) (b : List ℕ) (fields : List HeaderSpan) (n : NameAddr) → name_addr_of k b fields ≡ Some n → (f : HeaderSpan) × (first k fields ≡ Some f)
unfolding name_addr_of
name_addr_field k b fields n e = let f = bind_some (first k fields) _ n e in (f.0, f.1)

call_id_field : (b : List ℕ) (fields : List HeaderSpan) (s : Span) → call_id_of b fields ≡ Some s → (f : HeaderSpan) × (first kind.CallId fields ≡ Some f)
unfolding call_id_of
call_id_field b fields s e = let f = bind_some (first kind.CallId fields) _ s e in (f.0, f.1)

cseq_field : (b : List ℕ) (fields : List HeaderSpan) (c : CSeq) → cseq_of b fields ≡ Some c → (f : HeaderSpan) × (first kind.CSeq fields ≡ Some f)
unfolding cseq_of
cseq_field b fields c e = let f = bind_some (first kind.CSeq fields) _ c e in (f.0, f.1)

-- what is said of the first field of a kind, which lies in the datagram
abbrev InField : List ℕ → (ℕ → ℕ → Type 0) → Type 0
InField b P = (f : HeaderSpan) × IsField b f × P f.value.from f.value.to

in_field : (b : List ℕ) (k : Kind) (m : Message) (P : ℕ → ℕ → Type 0) → Reads b m → (f : HeaderSpan) × (first k m.head.fields.items ≡ Some f) → InFirst k m.head.fields.items P → InField b P
in_field b k m P r f h =
    let Q : Option HeaderSpan → Type 0 = λ o. IfSome o (λ g. P g.value.from g.value.to) in
    (f.0, found_is b k m.head.fields.items f.0 (fields_are b m r) f.1, subst Q f.1 h)

within : (b : List ℕ) (f : HeaderSpan) (s : Span) → IsField b f → IsBetween f.value.from f.value.to s → IsWithin b s
within b f s is h = record { order = h.order; end = omega (arith, h.high, is.end, is.within) }

value_within : (b : List ℕ) (f : HeaderSpan) (o : Option Span) → IsField b f → IfSome o (IsBetween f.value.from f.value.to) → IfSome o (IsWithin b)
value_within b f None is h = tt
value_within b f (Some s) is h = within b f s is h

from_in : (b : List ℕ) (m : Message) → Reads b m → InField b (λ i j. IsNameAddrBetween i j m.from)
from_in b m r = in_field b kind.From m (λ i j. IsNameAddrBetween i j m.from) r (name_addr_field kind.From b m.head.fields.items m.from r.parts.from) (lies b m r).parts.from

to_in : (b : List ℕ) (m : Message) → Reads b m → InField b (λ i j. IsNameAddrBetween i j m.to)
to_in b m r = in_field b kind.To m (λ i j. IsNameAddrBetween i j m.to) r (name_addr_field kind.To b m.head.fields.items m.to r.parts.to) (lies b m r).parts.to

pub from_uri_within : (b : List ℕ) (m : Message) → Reads b m → IsWithin b m.from.uri
from_uri_within b m r = let h = from_in b m r in within b h.0 m.from.uri h.1 h.2.uri

pub from_tag_within : (b : List ℕ) (m : Message) → Reads b m → IfSome m.from.tag (IsWithin b)
from_tag_within b m r = let h = from_in b m r in value_within b h.0 m.from.tag h.1 h.2.tag

pub to_uri_within : (b : List ℕ) (m : Message) → Reads b m → IsWithin b m.to.uri
to_uri_within b m r = let h = to_in b m r in within b h.0 m.to.uri h.1 h.2.uri

pub to_tag_within : (b : List ℕ) (m : Message) → Reads b m → IfSome m.to.tag (IsWithin b)
to_tag_within b m r = let h = to_in b m r in value_within b h.0 m.to.tag h.1 h.2.tag

pub call_id_within : (b : List ℕ) (m : Message) → Reads b m → IsWithin b m.call_id
call_id_within b m r =
    let h = in_field b kind.CallId m (λ i j. IsBetween i j m.call_id) r (call_id_field b m.head.fields.items m.call_id r.parts.call_id) (lies b m r).parts.call_id in
    within b h.0 m.call_id h.1 h.2

pub method_within : (b : List ℕ) (m : Message) → Reads b m → IsWithin b m.cseq.method
method_within b m r =
    let h = in_field b kind.CSeq m (λ i j. IsCSeqBetween i j m.cseq) r (cseq_field b m.head.fields.items m.cseq r.parts.cseq) (lies b m r).parts.cseq in
    within b h.0 m.cseq.method h.1 h.2.method

wider : (i j k : ℕ) (s : Span) → IsBetween i j s → j ≤ k → IsBetween 0 k s
wider i j k s h le = record { low = omega arith; order = h.order; high = omega (arith, h.high) }

wider_start : (i j k : ℕ) (s : Start) → IsStartBetween i j s → j ≤ k → IsStartBetween 0 k s
wider_start i j k (Request method uri) h le = (wider i j k method h.0 le, wider i j k uri h.1 le)
wider_start i j k (Status code reason) h le = wider i j k reason h le

pub start_within : (b : List ℕ) (m : Message) → Reads b m → IsStartBetween 0 (length b) m.start
start_within b m r = let at = lies b m r in wider_start m.head.start.from m.head.start.to (length b) m.start at.start at.head.start.end
