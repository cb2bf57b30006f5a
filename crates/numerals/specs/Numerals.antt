-- Numbers and addresses as scenarios and traces write them: decimal, without a sign or a leading zero.
use Rattle.std.specs.Prelude.{◌≡◌, ℕ, ◌/◌, ◌%◌, ◌^◌, ◌<◌, Bool, ◌||◌, nat_lt, List, ◌∷◌, ◌++◌, codes, slice_index}
use Rattle.std.specs.Str.{bytes_eq}
use Rattle.std.specs.Fmt.{decimal}
use Rattle.outside_ports.specs.declared.port.Addr.{Addr}

-- `0`, or a word whose first byte is above `0`
abbrev pub begins_number : List ℕ → Bool
begins_number word = bytes_eq word (codes "0") || nat_lt 48 (slice_index word 0)

-- the word is this number of 64 bits
abbrev pub IsNumber : List ℕ → ℕ → Type 0
IsNumber word n = (n < 2 ^ 64) × (word ≡ decimal n)

-- four numbers with dots between them, the highest byte first
abbrev pub dotted : ℕ → List ℕ
dotted ip =
    decimal (ip / 16777216 % 256) ++ 46 ∷ (decimal (ip / 65536 % 256)
    ++ 46 ∷ (decimal (ip / 256 % 256) ++ 46 ∷ decimal (ip % 256)))

-- IP:PORT
abbrev pub socket : Addr → List ℕ
socket addr = dotted addr.ip ++ 58 ∷ decimal addr.port

-- the word is this address, whose port is not 0
abbrev pub IsSocket : List ℕ → Addr → Type 0
IsSocket word addr = (addr.ip < 2 ^ 32) × (0 < addr.port) × (addr.port < 2 ^ 16) × (word ≡ socket addr)
