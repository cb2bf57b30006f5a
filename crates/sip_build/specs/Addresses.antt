-- Where a reply goes (RFC 3261, section 18.2.2; RFC 3581, section 4).
use Rattle.std.specs.Prelude.{ℕ, Option, Some, None}
use Rattle.outside_ports.specs.declared.port.Addr.{Addr}
use Rattle.sip_fields.specs.declared.via.Via.{Via}
use Rattle.sip_fields.specs.declared.via.Rport.{Rport}
use Rattle.sip_fields.specs.declared.via.Rport.TheVariants.{Absent, Empty, Given}

-- the port of a Via value
abbrev pub port_or_5060 : Option ℕ → ℕ
port_or_5060 None = 5060
port_or_5060 (Some port) = port

-- an rport without a value asks for the source port
abbrev pub reply_port : Rport → Option ℕ → ℕ → ℕ
reply_port (Empty word) port source = source
reply_port (Given value) port source = port_or_5060 port
reply_port Absent port source = port_or_5060 port

-- where the reply to a request with this top Via value goes, which came from this source
unfoldable pub reply_address : Via → Addr → Addr
reply_address via source = record { ip = source.ip; port = reply_port via.rport via.port source.port }
