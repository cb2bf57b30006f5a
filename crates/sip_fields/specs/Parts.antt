-- The grammar of the parts that several values have: hosts, ports, and what stands behind a value.
use Rattle.std.specs.Prelude.{◌≢◌, ℕ, ◌+◌, ◌<◌, ◌≤◌, List, [], ◌∷◌, ◌++◌, length, Option, Some, None}
use Rattle.std.specs.Int.{w32, from_be_bytes}
use Rattle.std.specs.Str.Parse.{digits_value}
use Rattle.sip_words.specs.ByteNames.{COMMA, DOT, COLON}
use Rattle.sip_words.specs.declared.Span.{Span}
use Rattle.sip_words.specs.declared.bytes.Class.TheVariants as class
use Rattle.sip_words.specs.declared.separators.Surroundings.{Surroundings}
use Rattle.sip_words.specs.declared.params.Param.{Param}
use Rattle.sip_words.specs.Grammar.{Blank, lws, NoBlank, SeparatorTree, separator, IsSeparator, IsWord}
use Rattle.sip_fields.specs.declared.host.Host.{Host}
use Rattle.sip_fields.specs.declared.host.Host.TheVariants.{V4, Name}

-- a host is four numbers with dots, or a name (RFC 3261, section 25.1: IPv4address, hostname; no IPv6 here)
pub data HostTree : Type 0 where
  Numbers : List ℕ → List ℕ → List ℕ → List ℕ → HostTree
  Named : List ℕ → HostTree

abbrev pub host : HostTree → List ℕ
host (Numbers a b c d) = a ++ (DOT ∷ (b ++ (DOT ∷ (c ++ (DOT ∷ d)))))
host (Named w) = w

-- one to three digits that write a number 0 to 255
pub record IsOctet (w : List ℕ) : Type 0 where
  pub word : IsWord class.Digit w
  pub few : length w ≤ 3
  pub high : digits_value 10 w < 256

pub record AreOctets (a b c d : List ℕ) : Type 0 where
  pub first : IsOctet a
  pub second : IsOctet b
  pub third : IsOctet c
  pub fourth : IsOctet d

-- no four numbers with dots
pub record IsName (w : List ℕ) : Type 0 where
  pub word : IsWord class.Name w
  pub no_numbers : (a b c d : List ℕ) → AreOctets a b c d → w ≢ host (Numbers a b c d)

abbrev pub IsHost : HostTree → Type 0
IsHost (Numbers a b c d) = AreOctets a b c d
IsHost (Named w) = IsName w

abbrev pub host_value : HostTree → Host
host_value (Numbers a b c d) = V4 (from_be_bytes w32 (digits_value 10 a ∷ digits_value 10 b ∷ digits_value 10 c ∷ digits_value 10 d ∷ []))
host_value (Named w) = Name

pub record PortTree : Type 0 where
  pub colon : SeparatorTree
  pub digits : List ℕ

abbrev pub port : Option PortTree → List ℕ
port None = []
port (Some p) = separator COLON p.colon ++ p.digits

-- one to five digits that write a number 1 to 65535
pub record IsPort (surroundings : Surroundings) (p : PortTree) : Type 0 where
  pub colon : IsSeparator surroundings p.colon
  pub word : IsWord class.Digit p.digits
  pub few : length p.digits ≤ 5
  pub low : 0 < digits_value 10 p.digits
  pub high : digits_value 10 p.digits < 65536

abbrev pub port_value : Option PortTree → Option ℕ
port_value None = None
port_value (Some p) = Some (digits_value 10 p.digits)

-- behind a value: the end of the field, or a comma and whatever stands behind it
pub data Tail : Type 0 where
  Last : List Blank → Tail
  More : SeparatorTree → List ℕ → Tail

abbrev pub tail : Tail → List ℕ
tail (Last bs) = lws bs
tail (More m rest) = separator COMMA m ++ rest

-- the LWS behind the comma is all that stands there
abbrev pub IsTail : Tail → Type 0
IsTail (Last bs) = Unit {0}
IsTail (More m rest) = NoBlank rest

abbrev pub next_place : ℕ → Tail → Option ℕ
next_place i (Last bs) = None
next_place i (More m rest) = Some (i + length (separator COMMA m))

-- the value of a parameter, if there is one and it has one
abbrev pub value_of_param : Option Param → Option Span
value_of_param None = None
value_of_param (Some p) = p.value
