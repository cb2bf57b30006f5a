-- The grammar of a start line (RFC 3261, sections 7.1, 7.2 and 25.1): trees, the text that each one spells, and where its parts stand.
use Rattle.std.specs.Prelude.{◌≡◌, ℕ, ◌+◌, ◌≤◌, true, List, [], ◌∷◌, ◌++◌, length, drop, Option, Some, None, codes}
use Rattle.std.specs.Str.{str_eq_ignore_ascii_case}
use Rattle.std.specs.Str.Parse.{digits_value}
use Rattle.sip_words.specs.ByteNames.{SP}
use Rattle.sip_words.specs.declared.Span.{Span}
use Rattle.sip_words.specs.declared.bytes.Class.TheVariants.{Token, Visible, Digit}
use Rattle.sip_words.specs.Grammar.{IsWord}
use Rattle.sip_words.specs.Spans.{span}
use Rattle.sip_msg.specs.declared.start.Start.{Start}
use Rattle.sip_msg.specs.declared.start.Start.TheVariants.{Request, Status}

-- Method SP Request-URI SP SIP-Version, and SIP-Version SP Status-Code, with SP Reason-Phrase or without
pub data LineTree : Type 0 where
  RequestLine : List ℕ → List ℕ → List ℕ → LineTree
  StatusLine : List ℕ → List ℕ → Option (List ℕ) → LineTree

abbrev pub reason : Option (List ℕ) → List ℕ
reason None = []
reason (Some w) = SP ∷ w

abbrev pub line : LineTree → List ℕ
line (RequestLine method uri version) = method ++ (SP ∷ (uri ++ (SP ∷ version)))
line (StatusLine version code tail) = version ++ (SP ∷ (code ++ reason tail))

-- SIP/2.0, in any case
abbrev pub IsVersion : List ℕ → Type 0
IsVersion w = str_eq_ignore_ascii_case w (codes "SIP/2.0") ≡ true

-- the code has three digits at most and writes a number 100 to 699; the reason is any bytes
abbrev pub IsLineTree : LineTree → Type 0
IsLineTree (RequestLine method uri version) = IsWord Token method × IsWord Visible uri × IsVersion version
IsLineTree (StatusLine version code tail) = IsVersion version × IsWord Digit code × (length code ≤ 3) × (100 ≤ digits_value 10 code) × (digits_value 10 code ≤ 699)

abbrev pub reason_place : ℕ → Option (List ℕ) → Span
reason_place i None = span i i
reason_place i (Some w) = span (i + 1) (i + 1 + length w)

abbrev pub line_place : ℕ → LineTree → Start
line_place i (RequestLine method uri version) = Request (span i (i + length method)) (span (i + length method + 1) (i + length method + 1 + length uri))
line_place i (StatusLine version code tail) = Status (digits_value 10 code) (reason_place (i + length version + 1 + length code) tail)

-- from i to the end of the text stands a start line, and it has its parts at their places
abbrev pub IsStartAt : List ℕ → ℕ → Start → Type 0
IsStartAt text i s = (t : LineTree) × IsLineTree t × (drop i text ≡ line t) × (s ≡ line_place i t)
