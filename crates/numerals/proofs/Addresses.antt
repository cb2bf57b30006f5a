-- Addresses in decimal: their numbers, and that each is split in one way.
use Rattle.std.proofs.Common.{◌≡◌, ◌≢◌, ℕ, ◌+◌, ◌*◌, ◌/◌, ◌%◌, ◌^◌, ◌<◌, List, [], ◌∷◌, ◌++◌, refl, sym, ap, ◌∙◌, subst, arith, append_assoc}
use Rattle.std.specs.Prelude.{Option, Some, None, IfNone}
use Rattle.outside_ports.specs.declared.port.Addr.{Addr}
use Rattle.std.specs.Fmt.{decimal}
use Rattle.std.specs.Int.{IsInRange}
use Rattle.std.specs.Net.Text.{dotted_text}
use Rattle.std.specs.Net.Grammar.{IsIpv4Text}
use Rattle.std.specs.Net.Addr.{ipv4_bits, ipv4_octets}
use Rattle.std.specs.declared.net.ipv4_addr.Ipv4Addr.{Ipv4Addr}
use Rattle.std.specs.Str.Parse.{AllDigits}
use Rattle.std.proofs.lemmas.Str.Parse.{numerals_by_value, tells_digits, not_in_digits}
use Rattle.std.proofs.lemmas.Fmt.{decimal_is_IsNumeral, decimal_injective}
use Rattle.std.proofs.lemmas.List.Elements.{All-from_get_or, All-append, All-cons, All-head, All-tail}
use Rattle.numerals.specs.Numerals.{dotted, socket, IsSocket}
use Rattle.sip_words.specs.Splits.{SplitsAt, Lacks}

-- a list is split at the first byte of a kind in one way
pub split_one_way : (byte : ℕ) (front back front' back' : List ℕ) → front ++ byte ∷ back ≡ front' ++ byte ∷ back'
    → Lacks byte front → Lacks byte front' → (front ≡ front') × (back ≡ back')
split_one_way byte [] back [] back' e h h' = (refl, cc)
split_one_way byte [] back (y ∷ ys) back' e h h' = let same : y ≡ byte = cc in absurd (All-head (λ b. b ≢ byte) y ys h' same)
split_one_way byte (x ∷ xs) back [] back' e h h' = let same : x ≡ byte = cc in absurd (All-head (λ b. b ≢ byte) x xs h same)
split_one_way byte (x ∷ xs) back (y ∷ ys) back' e h h' =
    let head : x ≡ y = cc in
    let tail : xs ++ byte ∷ back ≡ ys ++ byte ∷ back' = cc in
    let rest = split_one_way byte xs back ys back' tail (All-tail (λ b. b ≢ byte) x xs h) (All-tail (λ b. b ≢ byte) y ys h') in
    (cc, rest.1)

pub only_split : (byte : ℕ) (bytes front back front' back' : List ℕ) → SplitsAt byte bytes front back
    → bytes ≡ front' ++ byte ∷ back' → Lacks byte front' → (front ≡ front') × (back ≡ back')
only_split byte bytes front back front' back' h e lacks = split_one_way byte front back front' back' (sym h.whole ∙ e) h.first lacks

-- what has no such byte is not split
pub not_split : (byte : ℕ) (bytes front back : List ℕ) → Lacks byte bytes → bytes ≡ front ++ byte ∷ back → ⊥
not_split byte bytes [] back h e = All-head (λ b. b ≢ byte) byte back (subst (Lacks byte) e h) refl
not_split byte [] (y ∷ ys) back h e = absurd (cc)
not_split byte (x ∷ xs) (y ∷ ys) back h e =
    let tail : xs ≡ ys ++ byte ∷ back = cc in not_split byte xs ys back (All-tail (λ b. b ≢ byte) x xs h) tail

-- a decimal has digits alone
pub decimal_lacks : (byte n : ℕ) → n < 2 ^ 64 → ¬ IsInRange 48 57 byte → Lacks byte (decimal n)
decimal_lacks byte n small other =
    All-from_get_or (λ b. b ≢ byte) (decimal n) 0 (not_in_digits (numerals_by_value (AllDigits 10) tells_digits) (decimal n) byte (decimal_is_IsNumeral n small).0.1 other)

-- four numbers and the address that they make
bits : (a b c d ip : ℕ) → a < 256 → b < 256 → c < 256 → d < 256 → ip ≡ a * 16777216 + b * 65536 + c * 256 + d
    → (ip / 16777216 % 256 ≡ a) × (ip / 65536 % 256 ≡ b) × (ip / 256 % 256 ≡ c) × (ip % 256 ≡ d)
bits a b c d ip la lb lc ld e = (omega arith, omega arith, omega arith, omega arith)

shown_bits : (a b c d ip : ℕ) → a < 256 → b < 256 → c < 256 → d < 256 → ip ≡ a * 16777216 + b * 65536 + c * 256 + d
    → dotted_text a b c d ≡ dotted ip
shown_bits a b c d ip la lb lc ld e = let (ea, eb, ec, ed) = bits a b c d ip la lb lc ld e in rw (ea, eb, ec, ed) (simp append_assoc)

worth : (a : Ipv4Addr) (i j k l : ℕ) → ipv4_octets a ≡ i ∷ j ∷ k ∷ l ∷ [] → ipv4_bits a ≡ i * 16777216 + j * 65536 + k * 256 + l
unfolding ipv4_bits
worth a i j k l e = rw e (omega arith)

pub ip_found : (word : List ℕ) (a : Ipv4Addr) → IsIpv4Text word a → word ≡ dotted (ipv4_bits a)
ip_found word a h =
    h.spelled ∙ shown_bits h.a h.b h.c h.d (ipv4_bits a) h.fit.0 h.fit.1 h.fit.2 h.fit.3 (worth a h.a h.b h.c h.d h.value)

pub ip_none : (word : List ℕ) → ((a : Ipv4Addr) → ¬ IsIpv4Text word a) → (ip : ℕ) → ip < 2 ^ 32 → word ≡ dotted ip → ⊥
ip_none word none ip small e =
    let a = ip / 16777216 % 256 in
    let b = ip / 65536 % 256 in
    let c = ip / 256 % 256 in
    let d = ip % 256 in
    none (record { octets = a ∷ b ∷ c ∷ d ∷ [] }) (record {
      a = a;
      b = b;
      c = c;
      d = d;
      fit = (omega arith, omega arith, omega arith, omega arith);
      value = refl;
      spelled = e ∙ simp append_assoc;
    })

-- an address has its colon behind four numbers
dotted_lacks : (ip : ℕ) → Lacks 58 (dotted ip)
dotted_lacks ip =
    let P : ℕ → Type 0 = λ b. b ≢ 58 in
    let part : (n : ℕ) → Lacks 58 (decimal (n % 256)) = λ n. decimal_lacks 58 (n % 256) (omega arith) (λ h. omega arith) in
    let dot : (xs : List ℕ) → Lacks 58 xs → Lacks 58 (46 ∷ xs) = λ xs h. All-cons P 46 xs (λ e. omega arith) h in
    let low = All-append P (decimal (ip / 256 % 256)) (46 ∷ decimal (ip % 256)) (part (ip / 256)) (dot (decimal (ip % 256)) (part ip)) in
    let middle = All-append P (decimal (ip / 65536 % 256)) (46 ∷ (decimal (ip / 256 % 256) ++ 46 ∷ decimal (ip % 256))) (part (ip / 65536)) (dot _ low) in
    All-append P (decimal (ip / 16777216 % 256)) _ (part (ip / 16777216)) (dot _ middle)

-- a word that is split at its colon is an address exactly where its parts are
pub socket_parts : (word front back : List ℕ) (address : Addr) → SplitsAt 58 word front back → IsSocket word address
    → (front ≡ dotted address.ip) × (back ≡ decimal address.port)
socket_parts word front back address split h =
    only_split 58 word front back (dotted address.ip) (decimal address.port) split h.3 (dotted_lacks address.ip)

pub no_colon : (word : List ℕ) (address : Addr) → Lacks 58 word → IsSocket word address → ⊥
no_colon word address lacks h = not_split 58 word (dotted address.ip) (decimal address.port) lacks h.3

-- what holds anyway holds where nothing is answered
pub where_none : {A : Type 0} (o : Option A) (P : Type 0) → P → IfNone o P
where_none None P h = h
where_none (Some a) P h = tt

-- a word is one address at most
octets_back : (ip ip' : ℕ) → ip < 2 ^ 32 → ip' < 2 ^ 32 → ip / 16777216 % 256 ≡ ip' / 16777216 % 256 → ip / 65536 % 256 ≡ ip' / 65536 % 256
    → ip / 256 % 256 ≡ ip' / 256 % 256 → ip % 256 ≡ ip' % 256 → ip ≡ ip'
octets_back ip ip' l l' a b c d = omega arith

octet_lacks : (n : ℕ) → Lacks 46 (decimal (n % 256))
octet_lacks n = decimal_lacks 46 (n % 256) (omega arith) (λ h. omega arith)

same_octet : (m n : ℕ) → decimal (m % 256) ≡ decimal (n % 256) → m % 256 ≡ n % 256
same_octet m n e = decimal_injective (m % 256) (n % 256) (omega arith) (omega arith) e

same_ip : (ip ip' : ℕ) → ip < 2 ^ 32 → ip' < 2 ^ 32 → dotted ip ≡ dotted ip' → ip ≡ ip'
same_ip ip ip' l l' e =
    let a = split_one_way 46 (decimal (ip / 16777216 % 256)) _ (decimal (ip' / 16777216 % 256)) _ e (octet_lacks (ip / 16777216)) (octet_lacks (ip' / 16777216)) in
    let b = split_one_way 46 (decimal (ip / 65536 % 256)) _ (decimal (ip' / 65536 % 256)) _ a.1 (octet_lacks (ip / 65536)) (octet_lacks (ip' / 65536)) in
    let c = split_one_way 46 (decimal (ip / 256 % 256)) (decimal (ip % 256)) (decimal (ip' / 256 % 256)) (decimal (ip' % 256)) b.1 (octet_lacks (ip / 256)) (octet_lacks (ip' / 256)) in
    octets_back ip ip' l l' (same_octet (ip / 16777216) (ip' / 16777216) a.0) (same_octet (ip / 65536) (ip' / 65536) b.0)
    (same_octet (ip / 256) (ip' / 256) c.0) (same_octet ip ip' c.1)

pub same_socket : (word word' : List ℕ) (a a' : Addr) → IsSocket word a → IsSocket word' a' → word ≡ word' → a ≡ a'
same_socket word word' a a' h h' e =
    let same : socket a ≡ socket a' = sym h.3 ∙ e ∙ h'.3 in
    let parts = split_one_way 58 (dotted a.ip) (decimal a.port) (dotted a'.ip) (decimal a'.port) same (dotted_lacks a.ip) (dotted_lacks a'.ip) in
    let ip : a.ip ≡ a'.ip = same_ip a.ip a'.ip h.0 h'.0 parts.0 in
    let port : a.port ≡ a'.port = decimal_injective a.port a'.port (omega arith) (omega arith) parts.1 in
    let made : ℕ → ℕ → Addr = λ i p. record { ip = i; port = p } in
    ap (λ i. made i a.port) ip ∙ ap (λ p. made a'.ip p) port
