-- Runs of an object whose definition is a relation between a state, a record and a state.
use Rattle.std.specs.Prelude.{◌≡◌, List, [], ◌∷◌}

-- from s, by these records, to u
abbrev pub Runs : {S A : Type 0} → (S → A → S → Type 0) → S → List A → S → Type 0
Runs step s [] u = s ≡ u
Runs {S} step s (x ∷ xs) u = (t : S) × step s x t × Runs step t xs u

-- the state after these records, where each says what the state after it is
abbrev pub folded : {S A : Type 0} → (S → A → S) → S → List A → S
folded after s [] = s
folded after s (x ∷ xs) = folded after (after s x) xs

-- each record has the answer that the state which the records before it made gives
abbrev pub EachAnswers : {S A : Type 0} → (S → A → Type 0) → (S → A → S) → S → List A → Type 0
EachAnswers answers after s [] = Unit {0}
EachAnswers answers after s (x ∷ xs) = answers s x × EachAnswers answers after (after s x) xs
