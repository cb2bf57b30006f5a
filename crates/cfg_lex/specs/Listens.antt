-- LISTEN: `udp:IP:PORT`.
use Rattle.std.specs.Prelude.{ℕ, Bool, ◌&&◌, nat_le, length, List, take, Option, Some, None, codes, if◌then◌else◌}
use Rattle.std.specs.Str.{bytes_eq}
use Rattle.sip_words.specs.Words.{◌>>=◌, byte_end}
use Rattle.sip_words.specs.Addresses.{v4_at, port_number_at}
use Rattle.sip_words.specs.ByteNames.{COLON}
use Rattle.cfg_tree.specs.declared.setting.Listen.{Listen}

unfoldable pub begins_udp : List ℕ → Bool
begins_udp text = nat_le 4 (length text) && bytes_eq (take 4 text) (codes "udp:")

-- IP:PORT at this place, and its end
unfoldable pub listen_address_at : List ℕ → ℕ → Option (Listen × ℕ)
listen_address_at text i = do
  ip ← v4_at text i
  colon ← byte_end COLON text ip.1
  port ← port_number_at text colon
  Some (record { ip = ip.0; port = port.0 }, port.1)

unfoldable pub listen_at : List ℕ → Option (Listen × ℕ)
listen_at text = if begins_udp text then listen_address_at text 4 else None
