-- The parts of a message that texts take over.
use Rattle.std.specs.Prelude.{ℕ, List, [], Option, Some, None, slice_range}
use Rattle.std.specs.List.{filter, flat_map}
use Rattle.sip_words.specs.declared.Span.{Span}
use Rattle.sip_words.specs.Spans.{span}
use Rattle.sip_scan.specs.declared.field.HeaderSpan.{HeaderSpan}
use Rattle.sip_scan.specs.declared.field.Kind.TheVariants as kind
use Rattle.msg_edits.specs.declared.parts.Edit.{Edit}
use Rattle.msg_edits.specs.Edited.{edited_from}
use Rattle.sip_msg.specs.declared.start.Start.{Start}
use Rattle.sip_msg.specs.declared.start.Start.TheVariants.{Request, Status}
use Rattle.sip_msg.specs.Fields.{is_of}

abbrev pub part : List ℕ → Span → List ℕ
part b at = slice_range b at.from at.to

-- a field with its name and bytes, up to and with its CRLF; nothing where it is absent
abbrev pub field_text : List ℕ → Option HeaderSpan → List ℕ
field_text b None = []
field_text b (Some f) = part b f.whole

-- what a field becomes in the edited message
abbrev pub edited_field : List ℕ → List Edit → HeaderSpan → List ℕ
edited_field b edits f = edited_from edits f.whole.from (part b f.whole)

-- the fields Via, in order, as they are in the edited message
abbrev pub edited_vias : List ℕ → List Edit → List HeaderSpan → List ℕ
edited_vias b edits fields = flat_map (edited_field b edits) (filter (is_of kind.Via) fields)

-- the fields Route, in order
abbrev pub routes : List ℕ → List HeaderSpan → List ℕ
routes b fields = flat_map (λ (f : HeaderSpan). part b f.whole) (filter (is_of kind.Route) fields)

-- the URI of a request line; a status line has none
abbrev pub uri_of : Start → Span
uri_of (Request method uri) = uri
uri_of (Status code reason) = span reason.from reason.from

-- where the first field of a kind begins, or the first field of all where there is none
abbrev pub place_of : Option HeaderSpan → ℕ → ℕ
place_of None fields = fields
place_of (Some f) fields = f.whole.from
