-- Lists of lists, one for each slot.
use Rattle.std.specs.Prelude.{ℕ, zero, suc, cond, nat_lt, List, [], ◌∷◌, length}

-- the k-th list, or the empty one
abbrev pub nth_list : {A : Type 0} → List (List A) → ℕ → List A
nth_list [] k = []
nth_list (x ∷ xs) zero = x
nth_list (x ∷ xs) (suc k) = nth_list xs k

-- the k-th list becomes h
abbrev pub with_nth_list : {A : Type 0} → List (List A) → ℕ → List A → List (List A)
with_nth_list [] zero h = h ∷ []
with_nth_list [] (suc k) h = [] ∷ with_nth_list [] k h
with_nth_list (x ∷ xs) zero h = h ∷ xs
with_nth_list (x ∷ xs) (suc k) h = x ∷ with_nth_list xs k h

-- the longer of two lists, place by place
abbrev pub longer_lists : {A : Type 0} → List (List A) → List (List A) → List (List A)
longer_lists [] ys = ys
longer_lists (x ∷ xs) [] = x ∷ xs
longer_lists (x ∷ xs) (y ∷ ys) = cond (nat_lt (length x) (length y)) y x ∷ longer_lists xs ys
