-- A list of two, and a list of three.
use Rattle.std.proofs.Common.{◌≡◌, ◌<◌, ◌≤◌, List, [], ◌∷◌, length, get_or, refl, arith}

pub two : {A : Type 0} (xs : List A) (a b : A) → 2 ≤ length xs → length xs < 3
    → a ≡ get_or xs 0 a → b ≡ get_or xs 1 b → xs ≡ a ∷ b ∷ []
two [] a b long short e f = absurd (omega arith)
two (x ∷ []) a b long short e f = absurd (omega arith)
two (x ∷ y ∷ []) a b long short e f = rw (e, f) refl
two (x ∷ y ∷ z ∷ rest) a b long short e f = absurd (omega arith)

pub three : {A : Type 0} (xs : List A) (a b c : A) → 3 ≤ length xs → length xs < 4
    → a ≡ get_or xs 0 a → b ≡ get_or xs 1 b → c ≡ get_or xs 2 c → xs ≡ a ∷ b ∷ c ∷ []
three [] a b c long short e f g = absurd (omega arith)
three (x ∷ []) a b c long short e f g = absurd (omega arith)
three (x ∷ y ∷ []) a b c long short e f g = absurd (omega arith)
three (x ∷ y ∷ z ∷ []) a b c long short e f g = rw (e, f, g) refl
three (x ∷ y ∷ z ∷ w ∷ rest) a b c long short e f g = absurd (omega arith)
