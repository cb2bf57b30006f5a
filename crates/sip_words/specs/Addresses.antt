-- IPv4 addresses and ports in decimal, as functions of a text and a place in it (RFC 3261, section 25.1).
use Rattle.std.specs.Prelude.{ℕ, ◌+◌, List, [], ◌∷◌, Option, Some, None, nat_lt, if◌then◌else◌}
use Rattle.std.specs.Int.{w32, from_be_bytes}
use Rattle.sip_words.specs.ByteNames.{DOT}
use Rattle.sip_words.specs.Words.{◌>>=◌, stands}
use Rattle.sip_words.specs.Numbers.{number_at}

-- one to three digits that write a number 0 to 255, and no digit behind them
unfoldable pub octet_at : List ℕ → ℕ → Option (ℕ × ℕ)
octet_at text i = do
  n ← number_at 3 text i
  if nat_lt n.0 256 then Some n else None

unfoldable pub dot_end : List ℕ → ℕ → Option ℕ
dot_end text i = if stands DOT text i then Some (i + 1) else None

-- four numbers 0 to 255 with dots, the highest byte first
unfoldable pub v4_at : List ℕ → ℕ → Option (ℕ × ℕ)
v4_at text i = do
  a ← octet_at text i
  p ← dot_end text a.1
  b ← octet_at text p
  q ← dot_end text b.1
  c ← octet_at text q
  r ← dot_end text c.1
  d ← octet_at text r
  Some (from_be_bytes w32 (a.0 ∷ b.0 ∷ c.0 ∷ d.0 ∷ []), d.1)

-- one to five digits that write a number 1 to 65535, and no digit behind them
unfoldable pub port_number_at : List ℕ → ℕ → Option (ℕ × ℕ)
port_number_at text i = do
  n ← number_at 5 text i
  if nat_lt 0 n.0 then (if nat_lt n.0 65536 then Some n else None) else None
