-- The head of a message, as a function of a datagram (RFC 3261, section 7).
use Rattle.std.specs.Prelude.{◌≡◌, ℕ, ◌+◌, ◌-◌, ◌≤◌, All, List, [], ◌∷◌, length, Option, Some, None, Result, Ok, Err, nat_lt, if◌then◌else◌}
use Rattle.sip_words.specs.declared.Span.{Span}
use Rattle.sip_words.specs.Words.{◌>>=◌}
use Rattle.sip_words.specs.Spans.{span, IsWithin}
use Rattle.sip_scan.specs.declared.field.HeaderSpan.{HeaderSpan}
use Rattle.sip_scan.specs.declared.Head.{Head}
use Rattle.sip_scan.specs.declared.ScanFault.{ScanFault}
use Rattle.sip_scan.specs.declared.ScanFault.TheVariants.{NotSip, BadHeader, TooManyHeaders}
use Rattle.sip_scan.specs.Lines.{line_end, start_line}
use Rattle.sip_scan.specs.Field.{fields_at, IsField}

-- a head with these parts
abbrev pub head : Span → List HeaderSpan → ℕ → Head
head start fields body = record { start = start; fields = record { items = fields }; body = body }

-- a head without fields, as a room to read into is made
abbrev pub no_head : Head
no_head = head (span 0 0) [] 0

-- what a call that reads into a room tells: what the room holds, or the fault
abbrev pub in_room : {U H E : Type 0} → Result U E → H → Result H E
in_room (Ok u) h = Ok h
in_room (Err e) h = Err e

abbrev pub at_most_128 : Head → Result Head ScanFault
at_most_128 h = if nat_lt 128 (length h.fields.items) then Err TooManyHeaders else Ok h

-- the head whose start line is this one, with all its fields; the line is plain
unfoldable pub head_behind : List ℕ → Span → Option Head
head_behind text start = do
  end ← line_end text start.from
  fields ← fields_at text (end + 2)
  Some (head start fields.0 (fields.1 + 2))

abbrev pub counted : Option Head → Result Head ScanFault
counted None = Err BadHeader
counted (Some h) = at_most_128 h

abbrev pub scanned_behind : List ℕ → Option Span → Result Head ScanFault
scanned_behind text None = Err NotSip
scanned_behind text (Some start) = counted (head_behind text start)

-- the head, or the first fault
unfoldable pub scanned : List ℕ → Result Head ScanFault
scanned text = scanned_behind text (start_line text)

-- the fields lie one behind the other from i to j
abbrev pub LieFrom : ℕ → List HeaderSpan → ℕ → Type 0
LieFrom i [] j = i ≡ j
LieFrom i (f ∷ fs) j = (f.whole.from ≡ i) × LieFrom f.whole.to fs j

-- where the parts of a head lie in the text
pub record HeadLiesIn (text : List ℕ) (h : Head) : Type 0 where
  pub start : IsWithin text h.start
  pub fields : LieFrom (h.start.to + 2) h.fields.items (h.body - 2)
  pub body_low : h.start.to + 4 ≤ h.body
  pub body_high : h.body ≤ length text
  pub each : All (IsField text) h.fields.items
