-- Where the parts of a message lie, and how often its fields stand.
use Rattle.std.specs.Prelude.{◌≡◌, ℕ, ◌≤◌, List, length, IfSome}
use Rattle.sip_words.specs.Spans.{IsBetween}
use Rattle.sip_fields.specs.Via.{IsViaBetween}
use Rattle.sip_fields.specs.NameAddr.{IsNameAddrBetween}
use Rattle.sip_fields.specs.CSeq.{IsCSeqBetween}
use Rattle.sip_scan.specs.declared.field.HeaderSpan.{HeaderSpan}
use Rattle.sip_scan.specs.declared.field.Kind.{Kind}
use Rattle.sip_scan.specs.declared.field.Kind.TheVariants as kind
use Rattle.sip_scan.specs.Head as scan
use Rattle.sip_msg.specs.declared.basis.Basis.{Basis}
use Rattle.sip_msg.specs.declared.message.Message.{Message}
use Rattle.sip_msg.specs.declared.values.Values.{Values}
use Rattle.sip_msg.specs.Start.{IsStartBetween}
use Rattle.sip_msg.specs.Fields.{first, count}

-- what is said of the begin and the end of the value of the first field of a kind
abbrev pub InFirst : Kind → List HeaderSpan → (ℕ → ℕ → Type 0) → Type 0
InFirst k fields P = IfSome (first k fields) (λ f. P f.value.from f.value.to)

-- each part lies in the value of its field
pub record ValuesLie (fields : List HeaderSpan) (v : Values) : Type 0 where
  pub via : InFirst kind.Via fields (λ i j. IsViaBetween i j v.via)
  pub from : InFirst kind.From fields (λ i j. IsNameAddrBetween i j v.from)
  pub to : InFirst kind.To fields (λ i j. IsNameAddrBetween i j v.to)
  pub call_id : InFirst kind.CallId fields (λ i j. IsBetween i j v.call_id)
  pub cseq : InFirst kind.CSeq fields (λ i j. IsCSeqBetween i j v.cseq)

-- the same of a message, which ends behind its head and within the datagram
pub record PartsLie (b : List ℕ) (m : Message) : Type 0 where
  pub via : InFirst kind.Via m.head.fields.items (λ i j. IsViaBetween i j m.via)
  pub from : InFirst kind.From m.head.fields.items (λ i j. IsNameAddrBetween i j m.from)
  pub to : InFirst kind.To m.head.fields.items (λ i j. IsNameAddrBetween i j m.to)
  pub call_id : InFirst kind.CallId m.head.fields.items (λ i j. IsBetween i j m.call_id)
  pub cseq : InFirst kind.CSeq m.head.fields.items (λ i j. IsCSeqBetween i j m.cseq)
  pub end_low : m.head.body ≤ m.end
  pub end_high : m.end ≤ length b

-- where a message's parts lie: its head, with the start line's parts in the start line, and its values
pub record MessageLiesIn (b : List ℕ) (m : Message) : Type 0 where
  pub head : scan.HeadLiesIn b m.head
  pub start : IsStartBetween m.head.start.from m.head.start.to m.start
  pub parts : PartsLie b m

-- where a basis's parts lie in the bytes that have it
pub record BasisLiesIn (front : List ℕ) (basis : Basis) : Type 0 where
  pub head : scan.HeadLiesIn front basis.head
  pub via : InFirst kind.Via basis.head.fields.items (λ i j. IsViaBetween i j basis.via)

-- a Via stands, once stand From, To, Call-ID and CSeq, and at most once Max-Forwards and Content-Length
pub record IsComplete (fields : List HeaderSpan) : Type 0 where
  pub via : 1 ≤ count kind.Via fields
  pub from : count kind.From fields ≡ 1
  pub to : count kind.To fields ≡ 1
  pub call_id : count kind.CallId fields ≡ 1
  pub cseq : count kind.CSeq fields ≡ 1
  pub max_forwards : count kind.MaxForwards fields ≤ 1
  pub content_length : count kind.ContentLength fields ≤ 1
