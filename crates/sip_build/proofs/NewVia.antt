-- A request under one Via field more.
use Rattle.std.proofs.Common.{◌≡◌, ℕ, ◌/◌, ◌%◌, ◌^◌, ◌<◌, true, List, [], ◌∷◌, ◌++◌, refl, ap, arith, append_assoc}
use Rattle.std.specs.Prelude.{codes}
use Rattle.std.specs.Fmt.{decimal}
use Rattle.std.specs.List.{AllByRecursion}
use Rattle.std.proofs.lemmas.Grind.{common_steps}
use Rattle.std.proofs.lemmas.List.{append-nil}
use Rattle.sip_words.specs.declared.bytes.Class.TheVariants.{Token, Digit}
use Rattle.sip_words.specs.Bytes.{has}
use Rattle.sip_words.proofs.Pieces.{other_byte}
use Rattle.sip_scan.specs.Lines.{is_plain}
use Rattle.sip_scan.specs.Grammar.{crlf, IsLine, FieldTree, field, IsFieldTree}
use Rattle.outside_ports.specs.declared.port.Addr.{Addr}
use Rattle.numerals.specs.Numerals.{dotted, socket}
use Rattle.sip_build.specs.Forwarded.{via_line}
use Rattle.sip_build.specs.Laws.{IsOwn, own_value}
use Rattle.sip_build.proofs.OwnVia.{decimal_digits}

-- the field of the line
unfoldable pub new_field : Addr → List ℕ → FieldTree
new_field listen branch = record { name = codes "Via"; gap = []; first = own_value listen branch; more = [] }

pieces : (a s b branch crlf : List ℕ) → (a ++ (s ++ (b ++ branch))) ++ (crlf ++ []) ≡ a ++ (s ++ (b ++ (branch ++ crlf)))
pieces a s b branch crlf = simp (append_assoc, append-nil)

pub new_field_is : (listen : Addr) (branch : List ℕ) → field (new_field listen branch) ≡ via_line listen branch
unfolding new_field
new_field_is listen branch = ap (λ (t : List ℕ). codes "Via:" ++ t) (pieces (codes " SIP/2.0/UDP ") (socket listen) (codes ";branch=") branch (codes "\r\n"))

-- its bytes stand in a line
plain_digit : (b : ℕ) → has Digit b ≡ true → is_plain b ≡ true
unfolding has
plain_digit b h = grind (arith, common_steps)

plain_token : (b : ℕ) → has Token b ≡ true → is_plain b ≡ true
unfolding has
plain_token b h = let n = other_byte Token 0 b refl h in let r = other_byte Token 13 b refl h in let l = other_byte Token 10 b refl h in rw (n, r, l) refl

plain_all : (P : ℕ → Type 0) → ((b : ℕ) → P b → is_plain b ≡ true) → (w : List ℕ) → AllByRecursion P w → IsLine w
plain_all P f [] a = tt
plain_all P f (b ∷ w) a = (f b a.0, plain_all P f w a.1)

plain_append : (v w : List ℕ) → IsLine v → IsLine w → IsLine (v ++ w)
plain_append [] w a c = c
plain_append (b ∷ v) w a c = (a.0, plain_append v w a.1 c)

plain_decimal : (n : ℕ) → n < 2 ^ 64 → IsLine (decimal n)
plain_decimal n small = plain_all (λ b. has Digit b ≡ true) plain_digit (decimal n) (decimal_digits n small)

plain_dotted : (ip : ℕ) → IsLine (dotted ip)
plain_dotted ip =
    let d = plain_decimal (ip % 256) (omega arith) in
    let c = plain_append (decimal (ip / 256 % 256)) (46 ∷ decimal (ip % 256)) (plain_decimal (ip / 256 % 256) (omega arith)) (refl, d) in
    let b = plain_append (decimal (ip / 65536 % 256)) (46 ∷ (decimal (ip / 256 % 256) ++ 46 ∷ decimal (ip % 256))) (plain_decimal (ip / 65536 % 256) (omega arith)) (refl, c) in
    plain_append (decimal (ip / 16777216 % 256)) (46 ∷ (decimal (ip / 65536 % 256) ++ 46 ∷ (decimal (ip / 256 % 256) ++ 46 ∷ decimal (ip % 256)))) (plain_decimal (ip / 16777216 % 256) (omega arith)) (refl, b)

plain_socket : (listen : Addr) → listen.port < 2 ^ 16 → IsLine (socket listen)
plain_socket listen small = plain_append (dotted listen.ip) (58 ∷ decimal listen.port) (plain_dotted listen.ip) (refl, plain_decimal listen.port (omega arith))

plain_value : (listen : Addr) (branch : List ℕ) → IsOwn listen branch → IsLine (own_value listen branch)
plain_value listen branch own =
    let b = plain_append (codes ";branch=") branch (refl, (refl, (refl, (refl, (refl, (refl, (refl, (refl, tt)))))))) (plain_all (λ b. has Token b ≡ true) plain_token branch own.token.all) in
    let s = plain_append (socket listen) (codes ";branch=" ++ branch) (plain_socket listen own.port) b in
    plain_append (codes " SIP/2.0/UDP ") (socket listen ++ (codes ";branch=" ++ branch)) (refl, (refl, (refl, (refl, (refl, (refl, (refl, (refl, (refl, (refl, (refl, (refl, (refl, tt))))))))))))) s

pub is_new_field : (listen : Addr) (branch : List ℕ) → IsOwn listen branch → IsFieldTree (new_field listen branch)
unfolding new_field has
is_new_field listen branch own = record { name = record { some = omega arith; all = (refl, (refl, (refl, tt))) }; gap = tt; first = plain_value listen branch own; more = tt }
