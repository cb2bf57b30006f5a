-- The stamped request: what a proxy notes in the top Via value of a request that it got (RFC 3261, section 18.2.1; RFC 3581, section 4).
use Rattle.std.specs.Prelude.{ℕ, ◌==◌, Bool, true, false, not, List, [], ◌∷◌, ◌++◌, Option, Some, None, if◌then◌else◌, codes}
use Rattle.std.specs.Fmt.{decimal}
use Rattle.sip_words.specs.Bytes.{◌or◌}
use Rattle.sip_words.specs.declared.Span.{Span}
use Rattle.sip_fields.specs.declared.host.Host.{Host}
use Rattle.sip_fields.specs.declared.host.Host.TheVariants.{V4, Name}
use Rattle.sip_fields.specs.declared.via.Via.{Via}
use Rattle.sip_fields.specs.declared.via.Rport.{Rport}
use Rattle.sip_fields.specs.declared.via.Rport.TheVariants.{Absent, Empty, Given}
use Rattle.msg_edits.specs.declared.parts.Edit.{Edit}
use Rattle.msg_edits.specs.declared.parts.Edit.TheVariants.{Cut, Insert}
use Rattle.outside_ports.specs.declared.port.Addr.{Addr}
use Rattle.numerals.specs.Numerals.{dotted}

-- an old ;received= is cut
abbrev pub without_received : Option Span → List Edit
without_received None = []
without_received (Some parameter) = Cut parameter ∷ []

-- rport without a value becomes rport= and the source port
abbrev pub with_port : Rport → ℕ → List Edit
with_port (Empty word) port = Insert word.to (codes "=" ++ decimal port) ∷ []
with_port (Given value) port = []
with_port Absent port = []

-- the host is the source address in numbers
abbrev pub is_source : Host → ℕ → Bool
is_source (V4 address) ip = address == ip
is_source Name ip = false

abbrev pub asks_for_port : Rport → Bool
asks_for_port (Empty word) = true
asks_for_port (Given value) = false
asks_for_port Absent = false

abbrev pub wants_received : Via → ℕ → Bool
wants_received via ip = asks_for_port via.rport or not (is_source via.host ip)

-- where rport stood so, or the host isn't the source address, ;received= and it go to the end of the value
abbrev pub with_received : Via → ℕ → List Edit
with_received via ip = if wants_received via ip then Insert via.whole.to (codes ";received=" ++ dotted ip) ∷ [] else []

unfoldable pub stamp : Via → Addr → List Edit
stamp via source = without_received via.received ++ (with_port via.rport source.port ++ with_received via source.ip)
