-- The reply that the proxy relays: without its top Via value (RFC 3261, section 16.7, item 3).
use Rattle.std.specs.Prelude.{ℕ, List, [], ◌∷◌, ◌++◌, take, Option, Some, None}
use Rattle.sip_words.specs.Spans.{span}
use Rattle.sip_fields.specs.declared.via.Via.{Via}
use Rattle.sip_scan.specs.declared.field.HeaderSpan.{HeaderSpan}
use Rattle.sip_scan.specs.declared.field.Kind.TheVariants as kind
use Rattle.sip_msg.specs.declared.message.Message.{Message}
use Rattle.sip_msg.specs.Fields.{first}
use Rattle.msg_edits.specs.declared.parts.Edit.{Edit}
use Rattle.msg_edits.specs.declared.parts.Edit.TheVariants.{Cut}
use Rattle.msg_edits.specs.Edited.{edited}

-- the whole field
abbrev pub without_field : Option HeaderSpan → List Edit
without_field None = []
without_field (Some f) = Cut f.whole ∷ []

-- the whole field where the value is its only one; else the value, its comma and the LWS after it
abbrev pub without_value : Option ℕ → Via → Option HeaderSpan → List Edit
without_value None via field = without_field field
without_value (Some next) via field = Cut (span via.whole.from next) ∷ []

unfoldable pub without_top_via : Message → List Edit
without_top_via m = without_value m.via.next m.via (first kind.Via m.head.fields.items)

unfoldable pub relayed_text : List ℕ → Message → List Edit → List ℕ
relayed_text b m edits = edited (take m.end b) (without_top_via m ++ edits)
