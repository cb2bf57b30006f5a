-- The values of a message's fields, as functions of its bytes and fields (RFC 3261, sections 20 and 25.1).
use Rattle.std.specs.Prelude.{◌≡◌, ℕ, zero, suc, ◌==◌, Bool, true, false, List, length, take, Option, Some, None, nat_lt, is_none, if◌then◌else◌, slice_range, codes, option_map}
use Rattle.std.specs.List.{list_all, starts_with}
use Rattle.std.specs.Prelude.{nat_eq}
use Rattle.std.specs.Str.{bytes_eq}
use Rattle.sip_words.specs.declared.Span.{Span}
use Rattle.sip_words.specs.declared.bytes.Class.TheVariants.{Unbroken}
use Rattle.sip_words.specs.Bytes.{◌and◌}
use Rattle.sip_words.specs.Spans.{span}
use Rattle.sip_words.specs.Words.{◌>>=◌, word_end, lws_end}
use Rattle.sip_words.specs.Numbers.{number_at}
use Rattle.sip_fields.specs.declared.via.Via.{Via}
use Rattle.sip_fields.specs.declared.name_addr.NameAddr.{NameAddr}
use Rattle.sip_fields.specs.declared.cseq.CSeq.{CSeq}
use Rattle.sip_fields.specs.Via.{via_at}
use Rattle.sip_fields.specs.NameAddr.{name_addr_at, route_at}
use Rattle.sip_fields.specs.CSeq.{cseq_at}
use Rattle.sip_scan.specs.declared.field.HeaderSpan.{HeaderSpan}
use Rattle.sip_scan.specs.declared.field.Kind.{Kind}
use Rattle.sip_scan.specs.declared.field.Kind.TheVariants as kind
use Rattle.sip_msg.specs.declared.start.Start.{Start}
use Rattle.sip_msg.specs.declared.start.Start.TheVariants.{Request, Status}
use Rattle.sip_msg.specs.declared.values.Values.{Values}
use Rattle.sip_msg.specs.Fields.{first}

-- one or more bytes without LWS, and LWS round them
unfoldable pub call_id_at : List ℕ → ℕ → Option Span
call_id_at text i = do
  let start = lws_end text i
  end ← word_end Unbroken text start
  if lws_end text end == length text then Some (span start end) else None

-- a number of at most so many digits, and LWS round it
unfoldable pub whole_number : ℕ → List ℕ → ℕ → Option ℕ
whole_number most text i = do
  n ← number_at most text (lws_end text i)
  if lws_end text n.1 == length text then Some n.0 else None

-- a number up to 255
unfoldable pub hops_at : List ℕ → ℕ → Option ℕ
hops_at text i = do
  n ← whole_number 3 text i
  if nat_lt n 256 then Some n else None

-- the first value of the first Via
unfoldable pub via_of : List ℕ → List HeaderSpan → Option Via
via_of b fields = do
  f ← first kind.Via fields
  via_at (take f.value.to b) f.value.from

-- the value of From or To, which is the only one of its field
unfoldable pub name_addr_of : Kind → List ℕ → List HeaderSpan → Option NameAddr
name_addr_of k b fields = do
  f ← first k fields
  n ← name_addr_at (take f.value.to b) f.value.from
  if is_none n.next then Some n else None

unfoldable pub call_id_of : List ℕ → List HeaderSpan → Option Span
call_id_of b fields = do
  f ← first kind.CallId fields
  call_id_at (take f.value.to b) f.value.from

unfoldable pub cseq_of : List ℕ → List HeaderSpan → Option CSeq
cseq_of b fields = do
  f ← first kind.CSeq fields
  cseq_at (take f.value.to b) f.value.from

-- a value that may be absent: None where it stands and doesn't read
abbrev pub optional : (List ℕ → ℕ → Option ℕ) → List ℕ → Option HeaderSpan → Option (Option ℕ)
optional read b None = Some None
optional read b (Some f) = option_map Some (read (take f.value.to b) f.value.from)

unfoldable pub max_forwards_of : List ℕ → List HeaderSpan → Option (Option ℕ)
max_forwards_of b fields = optional hops_at b (first kind.MaxForwards fields)

unfoldable pub content_length_of : List ℕ → List HeaderSpan → Option (Option ℕ)
content_length_of b fields = optional (whole_number 10) b (first kind.ContentLength fields)

-- where the value behind this one of a list begins, if there is one; None where this one doesn't read
unfoldable pub next_via : List ℕ → ℕ → Option (Option ℕ)
next_via text i = do
  via ← via_at text i
  Some via.next

unfoldable pub next_route : List ℕ → ℕ → Option (Option ℕ)
next_route text i = do
  route ← route_at text i
  Some route.next

-- of other kinds nothing is asked
abbrev pub next_value : Kind → List ℕ → ℕ → Option (Option ℕ)
next_value k text i = elim k [ kind.Via ↦ next_via text i | kind.Route ↦ next_route text i | _ ↦ Some None ]

abbrev pub rest_reads : Option (Option ℕ) → (ℕ → Bool) → Bool
rest_reads None rest = false
rest_reads (Some None) rest = true
rest_reads (Some (Some j)) rest = rest j

-- each value of a list from i on reads; n is above their number
unfoldable pub values_read : ℕ → (ℕ → Option (Option ℕ)) → ℕ → Bool
values_read zero next i = false
values_read (suc n) next i = rest_reads (next i) (values_read n next)

-- each value of a Via or Route field reads
unfoldable pub list_reads : List ℕ → HeaderSpan → Bool
list_reads b f = values_read (suc (length b)) (next_value f.kind (take f.value.to b)) f.value.from

-- the branch begins with the cookie of RFC 3261, section 8.1.1.7
abbrev pub has_cookie : List ℕ → Option Span → Bool
has_cookie b None = false
has_cookie b (Some branch) = starts_with nat_eq (slice_range b branch.from branch.to) (codes "z9hG4bK")

-- in a request the CSeq method is the method, and the top Via's branch has the cookie
abbrev pub fits : List ℕ → Start → CSeq → Via → Bool
fits b (Status code reason) cseq via = true
fits b (Request method uri) cseq via = bytes_eq (slice_range b cseq.method.from cseq.method.to) (slice_range b method.from method.to) and has_cookie b via.branch

-- the values, if each one reads and they fit the start line
unfoldable pub values_of : List ℕ → Start → List HeaderSpan → Option Values
values_of b start fields = do
  via ← via_of b fields
  from ← name_addr_of kind.From b fields
  to ← name_addr_of kind.To b fields
  call_id ← call_id_of b fields
  cseq ← cseq_of b fields
  max_forwards ← max_forwards_of b fields
  content_length ← content_length_of b fields
  if list_all (list_reads b) fields and fits b start cseq via
      then Some record { via = via; from = from; to = to; call_id = call_id; cseq = cseq; max_forwards = max_forwards; content_length = content_length }
      else None

-- each part is the value of its field
pub record HasValues (b : List ℕ) (fields : List HeaderSpan) (v : Values) : Type 0 where
  pub via : via_of b fields ≡ Some v.via
  pub from : name_addr_of kind.From b fields ≡ Some v.from
  pub to : name_addr_of kind.To b fields ≡ Some v.to
  pub call_id : call_id_of b fields ≡ Some v.call_id
  pub cseq : cseq_of b fields ≡ Some v.cseq
  pub max_forwards : max_forwards_of b fields ≡ Some v.max_forwards
  pub content_length : content_length_of b fields ≡ Some v.content_length
