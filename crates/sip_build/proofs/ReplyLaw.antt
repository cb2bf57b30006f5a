-- Where a reply goes, case by case.
use Rattle.std.proofs.Common.{◌≡◌, ℕ, false, refl, ap, ◌∙◌, Some, None}
use Rattle.std.specs.Prelude.{Option}
use Rattle.sip_words.specs.declared.Span.{Span}
use Rattle.sip_fields.specs.declared.via.Via.{Via}
use Rattle.sip_fields.specs.declared.via.Rport.{Rport}
use Rattle.sip_fields.specs.declared.via.Rport.TheVariants.{Absent, Empty, Given}
use Rattle.outside_ports.specs.declared.port.Addr.{Addr}
use Rattle.sip_build.specs.Addresses.{port_or_5060, reply_port, reply_address}
use Rattle.sip_build.specs.Stamp.{asks_for_port}

pub to_source : (via : Via) (source : Addr) → (reply_address via source).ip ≡ source.ip
unfolding reply_address
to_source via source = refl

pub by_rport : (via : Via) (source : Addr) (word : Span) → via.rport ≡ Empty word → (reply_address via source).port ≡ source.port
unfolding reply_address
by_rport via source word e = ap (λ (r : Rport). reply_port r via.port source.port) e

by_via : (r : Rport) (port : Option ℕ) (source : ℕ) → asks_for_port r ≡ false → reply_port r port source ≡ port_or_5060 port
by_via (Empty word) port source h = absurd (cc)
by_via (Given value) port source h = refl
by_via Absent port source h = refl

pub by_port : (via : Via) (source : Addr) (port : ℕ) → asks_for_port via.rport ≡ false → via.port ≡ Some port → (reply_address via source).port ≡ port
unfolding reply_address
by_port via source port h e = by_via via.rport via.port source.port h ∙ ap port_or_5060 e

pub by_default : (via : Via) (source : Addr) → asks_for_port via.rport ≡ false → via.port ≡ None → (reply_address via source).port ≡ 5060
unfolding reply_address
by_default via source h e = by_via via.rport via.port source.port h ∙ ap port_or_5060 e
