-- The texts between bars, one after the other.
use Rattle.std.proofs.Common.{◌≡◌, ◌≢◌, ℕ, Bool, true, false, ◌||◌, List, [], ◌∷◌, ◌++◌, refl, arith, eqb}
use Rattle.std.specs.Prelude.{All}
use Rattle.std.proofs.lemmas.Bool.Decides.{nat_tests}
use Rattle.std.proofs.lemmas.List.Elements.{All-tail}
use Rattle.sip_words.specs.Splits.{SplitsAt, Lacks}
use Rattle.host_meaning.specs.Headers.{between_bars}

other : (b : ℕ) → b ≢ 124 → eqb b 124 ≡ false
other b h = grind (arith, nat_tests)

front_first : (front back : List ℕ) → Lacks 124 front → between_bars (front ++ 124 ∷ back) ≡ front ∷ between_bars back
front_first [] back h = refl
front_first (b ∷ bs) back h = rw (other b (h 0 b (omega arith)), front_first bs back (All-tail (λ (c : ℕ). c ≢ 124) b bs h)) refl

pub first_text : (words front back : List ℕ) → SplitsAt 124 words front back → between_bars words ≡ front ∷ between_bars back
first_text words front back h = rw h.whole (front_first front back h.first)

pub last_text : (words : List ℕ) → Lacks 124 words → between_bars words ≡ words ∷ []
last_text [] h = refl
last_text (b ∷ bs) h = rw (other b (h 0 b (omega arith)), last_text bs (All-tail (λ (c : ℕ). c ≢ 124) b bs h)) refl

pub or_none : (b : Bool) → (b || false) ≡ b
or_none true = refl
or_none false = refl
