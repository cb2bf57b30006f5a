-- What the private parts of the writing stand for.
use Rattle.std.specs.Prelude.{ℕ, ◌-◌, ◌≤◌, Bool, List, [], ◌∷◌, ◌++◌, All, IfSome, length, map, nat_le, nat_lt, if◌then◌else◌}
use Rattle.std.specs.List.{filter, flat_map}
use Rattle.std.specs.Borrow.{Bor}
use Rattle.sip_words.specs.declared.Span.{Span}
use Rattle.sip_words.specs.Spans.{span, IsWithin}
use Rattle.sip_words.specs.Bytes.{◌and◌}
use Rattle.sip_scan.specs.declared.field.HeaderSpan.{HeaderSpan}
use Rattle.sip_scan.specs.declared.field.Kind.TheVariants as kind
use Rattle.msg_edits.specs.declared.parts.Edit.{Edit}
use Rattle.msg_edits.specs.declared.parts.Edit.TheVariants.{Cut, Insert}
use Rattle.msg_edits.specs.Change.{edit_of}
use Rattle.sip_fields.specs.declared.name_addr.NameAddr.{NameAddr}
use Rattle.sip_msg.specs.Fields.{is_of, first}
use Rattle.outside_ports.specs.declared.port.Addr.{Addr}
use Rattle.sip_build.specs.declared.forwarding.Hops.{Hops}
use Rattle.sip_build.specs.declared.responses.Request.{Request}
use Rattle.sip_build.specs.declared.responses.ToField.{ToField}
use Rattle.sip_build.specs.declared.joined.Joined.{Joined}
use Rattle.sip_build.specs.declared.joined.Taken.{Taken}
use Rattle.sip_build.specs.declared.joined.Taken.TheVariants.{Vias, Routes}
use Rattle.sip_build.specs.declared.stamp.Stamp.{Stamp}
use Rattle.sip_build.specs.Parts.{edited_field}
use Rattle.sip_build.specs.Reply.{answer}

-- an edit of a text, as an edit of a part of it; one that lies elsewhere does nothing
abbrev pub within : Span → Edit → Edit
within at (Cut s) = Cut (span (s.from - at.from) (s.to - at.from))
within at (Insert place text) = Insert (place - at.from) (if nat_le at.from place and nat_lt place at.to then text else [])

-- the edits of a stamp
abbrev pub edits_of_stamp : Stamp → List Edit
edits_of_stamp s = Cut s.received ∷ Insert s.rport_end s.port.bytes ∷ Insert s.value_end s.address.bytes ∷ []

abbrev pub is_taken : Taken → HeaderSpan → Bool
is_taken Vias f = is_of kind.Via f
is_taken Routes f = is_of kind.Route f

-- the fields of a joined text
abbrev pub fields_text : Joined → List ℕ
fields_text j = flat_map (edited_field j.b.now (map edit_of j.changes)) (filter (is_taken j.taken) j.fields.now)

abbrev pub pieces_text : List (Bor (List ℕ)) → List ℕ
pieces_text ps = flat_map (λ (p : Bor (List ℕ)). p.now) ps

unfoldable pub joined_text : Joined → List ℕ
joined_text j = pieces_text j.front.now ++ (fields_text j ++ pieces_text j.back.now)

-- a field and its value lie in the bytes
pub record FieldLies (b : List ℕ) (f : HeaderSpan) : Type 0 where
  pub low : f.whole.from ≤ f.value.from
  pub value : f.value.from ≤ f.value.to
  pub high : f.value.to ≤ f.whole.to
  pub within : f.whole.to ≤ length b

abbrev pub FieldsLie : List ℕ → List HeaderSpan → Type 0
FieldsLie b fields = All (FieldLies b) fields

-- the value ends in its field
abbrev pub EndsIn : NameAddr → HeaderSpan → Type 0
EndsIn n f = (f.whole.from ≤ n.whole.to) × (n.whole.to ≤ f.whole.to)

-- the parts of a request that a response is made to
pub record RequestLies (r : Request) : Type 0 where
  pub fields : FieldsLie r.b.now r.fields.now
  pub to : IfSome r.to (λ n. IfSome (first kind.To r.fields.now) (EndsIn n))
  pub branch : IfSome r.via.now.branch (IsWithin r.b.now)

-- its response
unfoldable pub response_to : Request → Addr → ℕ → List ℕ → List ℕ
response_to r source code reason = answer r.b.now r.fields.now r.via.now r.to source code reason

abbrev pub to_text : ToField → List ℕ
to_text t = t.front.now ++ (t.mark.now ++ (t.token.now ++ t.back.now))

-- what becomes of Max-Forwards
abbrev pub edits_of_hops : Hops → List Edit
edits_of_hops h = Cut h.at ∷ Insert h.at.from h.text.bytes ∷ []
