-- The field Via, as a function of a text and the place where a value and the LWS before it begin.
use Rattle.std.specs.Prelude.{ℕ, ◌<◌, ◌≤◌, List, Option, Some, None, IfSome, slice_range, if◌then◌else◌, codes}
use Rattle.std.specs.List.{list_all}
use Rattle.sip_words.specs.ByteNames.{SLASH}
use Rattle.sip_words.specs.declared.Span.{Span}
use Rattle.sip_words.specs.declared.bytes.Class.TheVariants.{Token}
use Rattle.sip_words.specs.declared.separators.Surroundings.TheVariants.{Field}
use Rattle.sip_words.specs.declared.params.Param.{Param}
use Rattle.sip_words.specs.Bytes.{has}
use Rattle.sip_words.specs.Spans.{span, IsBetween}
use Rattle.sip_words.specs.Words.{◌>>=◌, word_at, word_end, lws_end, gap_end}
use Rattle.sip_words.specs.Separators.{separator_at}
use Rattle.sip_words.specs.Params.{params_at, known}
use Rattle.sip_fields.specs.declared.via.Via.{Via}
use Rattle.sip_fields.specs.declared.via.Rport.{Rport}
use Rattle.sip_fields.specs.declared.via.Rport.TheVariants.{Absent, Empty, Given}
use Rattle.sip_fields.specs.Host.{host_at, port_at}
use Rattle.sip_fields.specs.Tail.{next_at}

-- the place of the host behind SIP/2.0/transport
unfoldable pub protocol_at : List ℕ → ℕ → Option ℕ
protocol_at text i = do
  sip ← word_at (codes "SIP") text i
  slash ← separator_at Field SLASH text sip
  version ← word_at (codes "2.0") text slash.end
  slash ← separator_at Field SLASH text version
  transport ← word_end Token text slash.end
  gap_end text transport

-- a branch is a token
abbrev pub token_value : List ℕ → Option Span → Option (Option Span)
token_value text None = None
token_value text (Some v) = if list_all (has Token) (slice_range text v.from v.to) then Some (Some v) else None

abbrev pub branch_of : List ℕ → Option Param → Option (Option Span)
branch_of text None = Some None
branch_of text (Some p) = token_value text p.value

abbrev pub rport_value : Span → Option Span → Rport
rport_value name None = Empty name
rport_value name (Some v) = Given v

abbrev pub rport_of : Option Param → Rport
rport_of None = Absent
rport_of (Some p) = rport_value p.name p.value

-- from the semicolon to the end of the value
abbrev pub with_value : Span → Option Span → Option Span
with_value whole None = None
with_value whole (Some v) = Some whole

abbrev pub received_of : Option Param → Option Span
received_of None = None
received_of (Some p) = with_value p.whole p.value

unfoldable pub via_at : List ℕ → ℕ → Option Via
via_at text from = do
  let start = lws_end text from
  place ← protocol_at text start
  host ← host_at text place
  port ← port_at Field text host.1
  ps ← params_at Field text port.1
  let params = known text ps
  branch ← branch_of text params.branch
  next ← next_at text params.end
  Some record {
    host = host.0;
    host_at = span place host.1;
    port = port.0;
    branch = branch;
    rport = rport_of params.rport;
    received = received_of params.received;
    whole = span start params.end;
    next = next;
  }

abbrev pub IsRportBetween : ℕ → ℕ → Rport → Type 0
IsRportBetween i j Absent = Unit {0}
IsRportBetween i j (Empty s) = IsBetween i j s
IsRportBetween i j (Given s) = IsBetween i j s

-- each part lies between these places
pub record IsViaBetween (i j : ℕ) (v : Via) : Type 0 where
  pub host_at : IsBetween i j v.host_at
  pub branch : IfSome v.branch (IsBetween i j)
  pub rport : IsRportBetween i j v.rport
  pub received : IfSome v.received (IsBetween i j)
  pub whole : IsBetween i j v.whole
  pub next : IfSome v.next (λ n. (i < n) × (n ≤ j))
