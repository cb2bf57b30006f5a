-- Header fields, as functions of a text and a place in it (RFC 3261, section 7.3).
use Rattle.std.specs.Prelude.{◌≡◌, ℕ, ◌+◌, ◌-◌, ◌≤◌, ◌==◌, Bool, List, length, Option, Some, None, if◌then◌else◌, slice_range, codes}
use Rattle.std.specs.Str.{str_eq_ignore_ascii_case}
use Rattle.sip_words.specs.ByteNames.{COLON}
use Rattle.sip_words.specs.declared.bytes.Class.TheVariants.{Token}
use Rattle.sip_words.specs.Spans.{span}
use Rattle.sip_words.specs.Words.{◌>>=◌, word_end, stands}
use Rattle.sip_words.specs.Many.{Next, Item, Done, Wrong, many}
use Rattle.sip_scan.specs.declared.field.HeaderSpan.{HeaderSpan}
use Rattle.sip_scan.specs.declared.field.Kind.{Kind}
use Rattle.sip_scan.specs.declared.field.Kind.TheVariants as kind
use Rattle.sip_scan.specs.Lines.{wsp_end, is_crlf, folded_end}

abbrev pub is_word : List ℕ → List ℕ → Bool
is_word a b = str_eq_ignore_ascii_case a b

-- compact names are spelled out (RFC 3261, section 7.3.3); case is ignored
unfoldable pub full_name : List ℕ → List ℕ
full_name name =
    if is_word name (codes "v") then codes "Via" else
    if is_word name (codes "f") then codes "From" else
    if is_word name (codes "t") then codes "To" else
    if is_word name (codes "i") then codes "Call-ID" else
    if is_word name (codes "m") then codes "Contact" else
    if is_word name (codes "l") then codes "Content-Length" else
    if is_word name (codes "c") then codes "Content-Type" else
    if is_word name (codes "k") then codes "Supported" else
    if is_word name (codes "s") then codes "Subject" else
    if is_word name (codes "e") then codes "Content-Encoding" else name

unfoldable pub kind_of : List ℕ → Kind
kind_of name =
    if is_word (full_name name) (codes "Via") then kind.Via else
    if is_word (full_name name) (codes "From") then kind.From else
    if is_word (full_name name) (codes "To") then kind.To else
    if is_word (full_name name) (codes "Call-ID") then kind.CallId else
    if is_word (full_name name) (codes "CSeq") then kind.CSeq else
    if is_word (full_name name) (codes "Max-Forwards") then kind.MaxForwards else
    if is_word (full_name name) (codes "Route") then kind.Route else
    if is_word (full_name name) (codes "Record-Route") then kind.RecordRoute else
    if is_word (full_name name) (codes "Contact") then kind.Contact else
    if is_word (full_name name) (codes "Content-Length") then kind.ContentLength else kind.Other

-- the kinds, numbered; a field of any other name is of the kind Other
abbrev pub field_kind_number : Kind → ℕ
field_kind_number k = elim k [
  | kind.Via ↦ 0
  | kind.From ↦ 1
  | kind.To ↦ 2
  | kind.CallId ↦ 3
  | kind.CSeq ↦ 4
  | kind.MaxForwards ↦ 5
  | kind.Route ↦ 6
  | kind.RecordRoute ↦ 7
  | kind.Contact ↦ 8
  | kind.ContentLength ↦ 9
  | kind.Other ↦ 10
]

abbrev pub is_same_kind : Kind → Kind → Bool
is_same_kind a b = field_kind_number a == field_kind_number b

-- token *(SP / HTAB) ":" value CRLF, where the value may go on in continuation lines
unfoldable pub field_at : List ℕ → ℕ → Option HeaderSpan
field_at text i = do
  name ← word_end Token text i
  let colon = wsp_end text name
  if stands COLON text colon
      then (do
        end ← folded_end text (colon + 1)
        Some record { kind = kind_of (slice_range text i name); name = span i name; value = span (colon + 1) (end - 2); whole = span i end })
      else None

abbrev pub field_item : Option HeaderSpan → Next HeaderSpan
field_item None = Wrong
field_item (Some f) = Item f f.whole.to

-- the empty line ends the fields
unfoldable pub next_field : List ℕ → ℕ → Next HeaderSpan
next_field text i = if is_crlf text i then Done else field_item (field_at text i)

-- the fields from i on, and the place of the empty line
unfoldable pub fields_at : List ℕ → ℕ → Option (List HeaderSpan × ℕ)
fields_at text i = many (length text) (next_field text) i

-- a field's parts stand in their order within the text, and its name is one of its kind
pub record IsField (text : List ℕ) (f : HeaderSpan) : Type 0 where
  pub name_first : f.name.from ≡ f.whole.from
  pub name : f.name.from ≤ f.name.to
  pub colon : f.name.to + 1 ≤ f.value.from
  pub value : f.value.from ≤ f.value.to
  pub end : f.value.to + 2 ≡ f.whole.to
  pub within : f.whole.to ≤ length text
  pub kind : f.kind ≡ kind_of (slice_range text f.name.from f.name.to)
