-- Values of parameters without quotes.
use Rattle.std.proofs.Common.{◌≡◌, ℕ, ◌==◌, true, false, refl, sym, ◌∙◌}
use Rattle.sip_words.specs.Bytes.{has}
use Rattle.sip_words.specs.declared.bytes.Class.TheVariants.{Token, Value}
use Rattle.sip_words.proofs.Pieces.{other_byte}

turned : (m b : ℕ) → (b == m) ≡ false → (m == b) ≡ false
turned m b h = Rattle.std.proofs.lemmas.Bool.ne_eqb m b (λ e. Rattle.std.proofs.lemmas.Bool.false≢true (sym h ∙ Rattle.std.proofs.lemmas.Bool.eq-eqb b m (sym e)))

pub value_byte : (b : ℕ) → (b == 59) ≡ false → (b == 44) ≡ false → (b == 34) ≡ false → (b == 60) ≡ false → (b == 62) ≡ false → (b == 32) ≡ false → (b == 9) ≡ false → (b == 13) ≡ false → (b == 10) ≡ false → has Value b ≡ true
unfolding has
value_byte b a0 c0 d0 e0 f0 g0 j0 k0 l0 =
    let a = turned 59 b a0 in
    let c = turned 44 b c0 in
    let d = turned 34 b d0 in
    let e = turned 60 b e0 in
    let f = turned 62 b f0 in
    let g = turned 32 b g0 in
    let j = turned 9 b j0 in
    let k = turned 13 b k0 in
    let l = turned 10 b l0 in
    rw (a, c, d, e, f, g, j, k, l) refl

pub token_byte : (b : ℕ) → has Token b ≡ true → has Value b ≡ true
unfolding has
token_byte b h = value_byte b (other_byte Token 59 b refl h) (other_byte Token 44 b refl h) (other_byte Token 34 b refl h) (other_byte Token 60 b refl h) (other_byte Token 62 b refl h) (other_byte Token 32 b refl h) (other_byte Token 9 b refl h) (other_byte Token 13 b refl h) (other_byte Token 10 b refl h)
