-- Lists of lists, as the histories that a pass has seen, one for each cell.
use Rattle.std.specs.Prelude.{◌≡◌, ℕ, zero, suc, cond, List, [], ◌∷◌, ◌++◌, length, nat_lt}

-- xs is the beginning of ys, or all of it
abbrev pub IsBeginning : {A : Type 0} → List A → List A → Type 0
IsBeginning {A} xs ys = (rest : List A) × (xs ++ rest ≡ ys)

-- the k-th list, or the empty one where there are fewer
abbrev pub list_at : {A : Type 0} → List (List A) → ℕ → List A
list_at [] k = []
list_at (x ∷ xs) zero = x
list_at (x ∷ xs) (suc k) = list_at xs k

-- the k-th list becomes h
abbrev pub list_put : {A : Type 0} → List (List A) → ℕ → List A → List (List A)
list_put [] zero h = h ∷ []
list_put [] (suc k) h = [] ∷ list_put [] k h
list_put (x ∷ xs) zero h = h ∷ xs
list_put (x ∷ xs) (suc k) h = x ∷ list_put xs k h

-- the longer of two lists, place by place
abbrev pub longer_of : {A : Type 0} → List (List A) → List (List A) → List (List A)
longer_of [] ys = ys
longer_of (x ∷ xs) [] = x ∷ xs
longer_of (x ∷ xs) (y ∷ ys) = cond (nat_lt (length x) (length y)) y x ∷ longer_of xs ys
