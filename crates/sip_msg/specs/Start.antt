-- Start lines (RFC 3261, sections 7.1, 7.2 and 25.1), as functions of the bytes up to the line's end and the place where it begins.
use Rattle.std.specs.Prelude.{ℕ, ◌+◌, ◌==◌, List, length, take, Option, Some, None, nat_lt, if◌then◌else◌, codes}
use Rattle.sip_words.specs.ByteNames.{SP}
use Rattle.sip_words.specs.declared.Span.{Span}
use Rattle.sip_words.specs.declared.bytes.Class.TheVariants.{Token, Visible}
use Rattle.sip_words.specs.Bytes.{◌or◌}
use Rattle.sip_words.specs.Spans.{span, IsBetween}
use Rattle.sip_words.specs.Words.{◌>>=◌, stands, word_at, word_end}
use Rattle.sip_words.specs.Numbers.{number_at}
use Rattle.sip_scan.specs.Lines.{start_line}
use Rattle.sip_msg.specs.declared.start.Start.{Start}
use Rattle.sip_msg.specs.declared.start.Start.TheVariants.{Request, Status}

-- the place behind a SP
abbrev pub behind_space : List ℕ → ℕ → Option ℕ
behind_space text i = if stands SP text i then Some (i + 1) else None

-- Method SP Request-URI SP SIP/2.0
unfoldable pub request_at : List ℕ → ℕ → Option Start
request_at text i = do
  method_end ← word_end Token text i
  uri ← behind_space text method_end
  uri_end ← word_end Visible text uri
  version ← behind_space text uri_end
  end ← word_at (codes "SIP/2.0") text version
  if end == length text then Some (Request (span i method_end) (span uri uri_end)) else None

-- behind a code: the end of the line, or SP and the reason up to the end
abbrev pub reason_at : List ℕ → ℕ → Option Span
reason_at text i = if i == length text then Some (span i i) else if stands SP text i then Some (span (i + 1) (length text)) else None

-- SIP/2.0 SP Status-Code, and SP Reason-Phrase, which may be left out; the code is 100 to 699
unfoldable pub status_at : List ℕ → ℕ → Option Start
status_at text i = do
  version_end ← word_at (codes "SIP/2.0") text i
  code ← behind_space text version_end
  n ← number_at 3 text code
  reason ← reason_at text n.1
  if nat_lt n.0 100 or nat_lt 699 n.0 then None else Some (Status n.0 reason)

abbrev pub or_else : {A : Type 0} → Option A → Option A → Option A
or_else None other = other
or_else (Some x) other = Some x

unfoldable pub start_at : List ℕ → ℕ → Option Start
start_at text i = or_else (request_at text i) (status_at text i)

-- the start line of a datagram
unfoldable pub start_of : List ℕ → Option Start
start_of b = do
  line ← start_line b
  start_at (take line.to b) line.from

-- each part lies between these places
abbrev pub IsStartBetween : ℕ → ℕ → Start → Type 0
IsStartBetween i j (Request method uri) = IsBetween i j method × IsBetween i j uri
IsStartBetween i j (Status code reason) = IsBetween i j reason
