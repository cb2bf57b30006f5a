-- A run of greatest length, and its length.
use Rattle.std.proofs.Common.{◌≡◌, ℕ, suc, Bool, true, List, [], ◌∷◌, ◌++◌, length, take, drop, refl, subst, inl, inr, arith}
use Rattle.std.specs.List.{prefix_len, AllByRecursion}
use Rattle.std.proofs.lemmas.Bool.{cases_Bool}
use Rattle.cfg_lex.specs.Tokens.{Ends, IsLongestRun}

pub run_again : (p : ℕ → Bool) (w rest : List ℕ) → AllByRecursion (λ b. p b ≡ true) w → Ends p rest → prefix_len p (w ++ rest) ≡ length w
run_again p [] [] a e = refl
run_again p [] (b ∷ rest) a e = rw e refl
run_again p (b ∷ w) rest a e = let h = a.0 in rw (h, run_again p w rest a.1 e) (omega arith)

pub run_is : (p : ℕ → Bool) (w rest : List ℕ) → IsLongestRun p w rest → prefix_len p (w ++ rest) ≡ length w
run_is p w rest is = run_again p w rest is.all is.ends

pub run_taken : (p : ℕ → Bool) (xs : List ℕ) → IsLongestRun p (take (prefix_len p xs) xs) (drop (prefix_len p xs) xs)
run_taken p [] = record { all = tt; ends = tt }
run_taken p (b ∷ xs) = let r = run_taken p xs in elim (cases_Bool (p b)) [
  | inl t ↦
      let n : suc (prefix_len p xs) ≡ prefix_len p (b ∷ xs) = rw t (omega arith) in
      let P : ℕ → Type 0 = λ k. IsLongestRun p (take k (b ∷ xs)) (drop k (b ∷ xs)) in
      let front : IsLongestRun p (b ∷ take (prefix_len p xs) xs) (drop (prefix_len p xs) xs) = record { all = (t, r.all); ends = r.ends } in
      subst P n front
  | inr f ↦
      let n : 0 ≡ prefix_len p (b ∷ xs) = rw f refl in
      let P : ℕ → Type 0 = λ k. IsLongestRun p (take k (b ∷ xs)) (drop k (b ∷ xs)) in
      let none : IsLongestRun p [] (b ∷ xs) = record { all = tt; ends = f } in
      subst P n none
]
