-- Hosts and ports, as functions of a text and a place in it (RFC 3261, section 25.1; this profile has no IPv6).
use Rattle.std.specs.Prelude.{ℕ, List, ◌==◌, length, Option, Some, None, if◌then◌else◌, slice_range}
use Rattle.sip_words.specs.ByteNames.{COLON}
use Rattle.sip_words.specs.declared.bytes.Class.TheVariants.{Name}
use Rattle.sip_words.specs.declared.separators.Separator.{Separator}
use Rattle.sip_words.specs.declared.separators.Surroundings.{Surroundings}
use Rattle.sip_words.specs.Words.{◌>>=◌, word_end}
use Rattle.sip_words.specs.Separators.{separator_at}
use Rattle.sip_words.specs.Addresses.{v4_at, port_number_at}
use Rattle.sip_fields.specs.declared.host.Host.{Host}
use Rattle.sip_fields.specs.declared.host.Host.TheVariants as host

-- a host that is four numbers with dots, and nothing else
abbrev pub host_from : Option (ℕ × ℕ) → ℕ → Host
host_from None len = host.Name
host_from (Some v) len = if v.1 == len then host.V4 v.0 else host.Name

unfoldable pub host_of : List ℕ → Host
host_of name = host_from (v4_at name 0) (length name)

unfoldable pub host_at : List ℕ → ℕ → Option (Host × ℕ)
host_at text i = do
  end ← word_end Name text i
  Some (host_of (slice_range text i end), end)

-- a port, where a colon stands
abbrev pub port_after : Option Separator → List ℕ → ℕ → Option (Option ℕ × ℕ)
port_after None text i = Some (None, i)
port_after (Some colon) text i = do
  port ← port_number_at text colon.end
  Some (Some port.0, port.1)

unfoldable pub port_at : Surroundings → List ℕ → ℕ → Option (Option ℕ × ℕ)
port_at surroundings text i = port_after (separator_at surroundings COLON text i) text i
