-- The proxy's own Via value, read back.
use Rattle.std.proofs.Common.{◌≡◌, ℕ, ◌+◌, ◌/◌, ◌%◌, ◌^◌, ◌<◌, ◌≤◌, ◌==◌, true, false, inl, inr, List, [], ◌∷◌, ◌++◌, length, drop, refl, sym, ap, subst, ◌∙◌, arith, append_assoc, Some, None, length-append}
use Rattle.std.specs.Prelude.{codes}
use Rattle.std.specs.Fmt.{decimal}
use Rattle.std.specs.Int.{w32, from_be_bytes}
use Rattle.std.specs.List.{list_all, AllByRecursion}
use Rattle.std.specs.Str.Parse.{digits_value}
use Rattle.std.proofs.lemmas.Fmt.{decimal_is_IsNumeral, decimal_by_steps, length-decimal-le, decimal_nonempty}
use Rattle.std.proofs.lemmas.Bool.{cases_eq, both_ways, ne_eqb}
use Rattle.std.proofs.lemmas.List.{append-nil}
use Rattle.std.proofs.lemmas.Grind.{common_steps}
use Rattle.sip_words.specs.declared.bytes.Class.TheVariants.{Token, Value, Digit}
use Rattle.sip_words.specs.Bytes.{has}
use Rattle.sip_words.specs.Grammar.{Space, IsWord, Bare}
use Rattle.sip_fields.specs.declared.host.Host.TheVariants.{V4}
use Rattle.sip_fields.specs.declared.via.Via.{Via}
use Rattle.sip_fields.specs.declared.via.Rport.TheVariants.{Absent}
use Rattle.sip_words.specs.Spans.{span}
use Rattle.sip_fields.specs.Parts.{Numbers, IsOctet, host, Last}
use Rattle.sip_fields.specs.Via.{via_at}
use Rattle.sip_fields.specs.ViaGrammar.{ViaTree, IsVia, via, via_place}
use Rattle.sip_fields.proofs.ViaAgain.{via_again}
use Rattle.outside_ports.specs.declared.port.Addr.{Addr}
use Rattle.numerals.specs.Numerals.{dotted}
use Rattle.sip_build.specs.Laws.{IsOwn, own_value, own_via}

digit : (d : ℕ) → d < 10 → has Digit (48 + d) ≡ true
unfolding has
digit d lt = grind (arith, common_steps)

all_digits_append : (xs : List ℕ) (b : ℕ) → AllByRecursion (λ b. has Digit b ≡ true) xs → has Digit b ≡ true → AllByRecursion (λ b. has Digit b ≡ true) (xs ++ b ∷ [])
all_digits_append [] b a h = (h, tt)
all_digits_append (x ∷ xs) b a h = (a.0, all_digits_append xs b a.1 h)

pub decimal_digits : (n : ℕ) → n < 2 ^ 64 → AllByRecursion (λ b. has Digit b ≡ true) (decimal n)
decimal_digits n small = decimal_by_steps (λ m ds. AllByRecursion (λ b. has Digit b ≡ true) ds) (λ m lt. (digit m lt, tt)) (λ m ds le all. all_digits_append ds (48 + m % 10) all (digit (m % 10) (omega arith))) n small

decimal_word : (n : ℕ) → n < 2 ^ 64 → IsWord Digit (decimal n)
decimal_word n small = record { some = decimal_nonempty n small; all = decimal_digits n small }

decimal_octet : (n : ℕ) → n < 256 → IsOctet (decimal n)
decimal_octet n lt =
    let value = (decimal_is_IsNumeral n (omega arith)).1 in
    record { word = decimal_word n (omega arith); few = length-decimal-le 3 n (omega arith) (omega arith) (omega arith); high = omega (arith, value) }

tree : Addr → List ℕ → ViaTree
tree listen branch = record {
  lead = Space ∷ [];
  sip = codes "SIP";
  slash = record { before = []; after = [] };
  version = codes "2.0";
  second_slash = record { before = []; after = [] };
  transport = codes "UDP";
  gap = Space ∷ [];
  host = Numbers (decimal (listen.ip / 16777216 % 256)) (decimal (listen.ip / 65536 % 256)) (decimal (listen.ip / 256 % 256)) (decimal (listen.ip % 256));
  port = Some record { colon = record { before = []; after = [] }; digits = decimal listen.port };
  params = record { semicolon = record { before = []; after = [] }; name = codes "branch"; value = Some (Bare branch) } ∷ [];
  tail = Last [];
}

-- a token may be a parameter's value
other : (m b : ℕ) → has Token m ≡ false → has Token b ≡ true → (m == b) ≡ false
other m b lacks is = elim (cases_eq m b) [ inl e ↦ let P : ℕ → Type 0 = λ n. has Token n ≡ true in absurd (both_ways _ lacks (subst P (sym e) is)) | inr ne ↦ ne_eqb m b ne ]

token_value : (b : ℕ) → has Token b ≡ true → has Value b ≡ true
unfolding has
token_value b h =
    let a = other 59 b refl h in
    let c = other 44 b refl h in
    let d = other 34 b refl h in
    let e = other 60 b refl h in
    let f = other 62 b refl h in
    let g = other 32 b refl h in
    let j = other 9 b refl h in
    let k = other 13 b refl h in
    let l = other 10 b refl h in
    rw (a, c, d, e, f, g, j, k, l) refl

all_values : (w : List ℕ) → AllByRecursion (λ b. has Token b ≡ true) w → AllByRecursion (λ b. has Value b ≡ true) w
all_values [] a = tt
all_values (b ∷ w) a = (token_value b a.0, all_values w a.1)

all_tokens : (w : List ℕ) → AllByRecursion (λ b. has Token b ≡ true) w → list_all (has Token) w ≡ true
all_tokens [] a = refl
all_tokens (b ∷ w) a = rw (a.0, all_tokens w a.1) refl

pieces : (h p q : List ℕ) → (h ++ p) ++ q ≡ h ++ (p ++ ((q ++ []) ++ []))
pieces h p q = simp (append_assoc, append-nil)

spelled : (listen : Addr) (branch : List ℕ) → own_value listen branch ≡ via (tree listen branch)
unfolding tree
spelled listen branch = ap (λ (t : List ℕ). codes " SIP/2.0/UDP " ++ t) (pieces (dotted listen.ip) (58 ∷ decimal listen.port) (codes ";branch=" ++ branch))

is_tree : (listen : Addr) (branch : List ℕ) → IsOwn listen branch → IsVia (tree listen branch)
unfolding tree has
is_tree listen branch own =
    let port_value = (decimal_is_IsNumeral listen.port (omega (arith, own.port))).1 in
    record {
      sip = refl;
      version = refl;
      transport = record { some = omega arith; all = (refl, (refl, (refl, tt))) };
      gap = omega arith;
      host = record {
        first = decimal_octet (listen.ip / 16777216 % 256) (omega arith);
        second = decimal_octet (listen.ip / 65536 % 256) (omega arith);
        third = decimal_octet (listen.ip / 256 % 256) (omega arith);
        fourth = decimal_octet (listen.ip % 256) (omega arith);
      };
      port = record {
        colon = record { before = tt; after = tt };
        word = decimal_word listen.port (omega (arith, own.port));
        few = length-decimal-le 5 listen.port (omega arith) (omega (arith, own.port)) (omega (arith, own.port));
        low = omega (arith, port_value, own.some_port);
        high = omega (arith, port_value, own.port);
      };
      params = (record { semicolon = record { before = tt; after = tt }; name = record { some = omega arith; all = (refl, (refl, (refl, (refl, (refl, (refl, tt)))))) }; value = record { some = own.token.some; all = all_values branch own.token.all } }, tt);
      branch = all_tokens branch own.token.all;
      tail = tt;
    }

-- the value by its numbers
own_of : (ip host host_end port at end start stop : ℕ) → Via
own_of ip host host_end port at end start stop = record { host = V4 ip; host_at = span host host_end; port = Some port; branch = Some (span at end); rport = Absent; received = None; whole = span start stop; next = None }

same_own : (ip ip2 host host2 host_end host_end2 port port2 at at2 end end2 start start2 stop stop2 : ℕ) → ip ≡ ip2 → host ≡ host2 → host_end ≡ host_end2 → port ≡ port2 → at ≡ at2 → end ≡ end2 → start ≡ start2 → stop ≡ stop2 → own_of ip host host_end port at end start stop ≡ own_of ip2 host2 host_end2 port2 at2 end2 start2 stop2
same_own ip ip2 host host2 host_end host_end2 port port2 at at2 end end2 start start2 stop stop2 a b c d e f g h = cc

ip_is : (ip : ℕ) → ip < 2 ^ 32 → from_be_bytes w32 (ip / 16777216 % 256 ∷ ip / 65536 % 256 ∷ ip / 256 % 256 ∷ ip % 256 ∷ []) ≡ ip
ip_is ip small = omega arith

octet_value : (n : ℕ) → digits_value 10 (decimal (n % 256)) ≡ n % 256
octet_value n = (decimal_is_IsNumeral (n % 256) (omega arith)).1

host_is : (ip : ℕ) → ip < 2 ^ 32 → from_be_bytes w32 (digits_value 10 (decimal (ip / 16777216 % 256)) ∷ digits_value 10 (decimal (ip / 65536 % 256)) ∷ digits_value 10 (decimal (ip / 256 % 256)) ∷ digits_value 10 (decimal (ip % 256)) ∷ []) ≡ ip
host_is ip small = rw (octet_value (ip / 16777216), octet_value (ip / 65536), octet_value (ip / 256), octet_value ip) (ip_is ip small)

place_is : (i : ℕ) (listen : Addr) (branch : List ℕ) → IsOwn listen branch → via_place i (tree listen branch) ≡ own_via i listen branch
unfolding tree own_of
place_is i listen branch own =
    let port = (decimal_is_IsNumeral listen.port (omega (arith, own.port))).1 in
    let host = i + 13 in
    let host_end = host + length (dotted listen.ip) in
    let at = host_end + 1 + length (decimal listen.port) + 8 in
    let params = length-append (codes ";branch=" ++ branch) [] in
    same_own _ listen.ip _ host _ host_end _ listen.port _ at _ (at + length branch) _ (i + 1) _ (at + length branch) (host_is listen.ip own.ip) (omega arith) (omega arith) port (omega arith) (omega arith) (omega arith) (omega (arith, params))

pub own_reads : (text : List ℕ) (i : ℕ) (listen : Addr) (branch : List ℕ) → IsOwn listen branch → i ≤ length text → drop i text ≡ own_value listen branch → via_at text i ≡ Some (own_via i listen branch)
own_reads text i listen branch own le h = via_again text i (tree listen branch) le (h ∙ spelled listen branch) (is_tree listen branch own) ∙ ap (λ (v : Via). Some v) (place_is i listen branch own)
