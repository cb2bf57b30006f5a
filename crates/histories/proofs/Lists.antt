-- Runs, lists that grow, counts that rise and records, one after another.
use Rattle.std.proofs.Common.{◌≡◌, ℕ, ◌+◌, ◌≤◌, ◌⊎◌, cond, true, false, List, [], ◌∷◌, ◌++◌, length, Option, Some, None, inl, inr, refl, sym, ap, ◌∙◌, subst, arith, append_assoc, append-nil, eqb, ◌↔◌}
use Rattle.std.specs.Prelude.{option_map}
use Rattle.std.specs.List.{flat_map}
use Rattle.std.proofs.lemmas.Grind.{flat_map-append}
use Rattle.histories.specs.Runs.{Runs, folded, EachAnswers}
use Rattle.histories.specs.Lists.{Grows, Keeps}
use Rattle.histories.specs.Counts.{Rises, Rose}
use Rattle.histories.specs.Records.{records, of, given}
use Rattle.histories.specs.declared.record.Recorded.{Recorded}
use Rattle.histories.specs.declared.record.LogItem.{LogItem}
use Rattle.histories.specs.declared.record.LogItem.TheVariants.{Given, Noted}

module _ {S A : Type 0} (step : S → A → S → Type 0) where
  pub runs_append : (s t u : S) (xs ys : List A) → Runs step s xs t → Runs step t ys u → Runs step s (xs ++ ys) u
  runs_append s t u [] ys a b = subst (λ z. Runs step z ys u) (sym a) b
  runs_append s t u (x ∷ xs) ys a b = (a.0, a.1, runs_append a.0 t u xs ys a.2 b)

  pub runs_more : (s t u : S) (xs : List A) (x : A) → Runs step s xs t → step t x u → Runs step s (xs ++ x ∷ []) u
  runs_more s t u xs x a b = runs_append s t u xs (x ∷ []) a (u, b, refl)

  pub runs_parts : (s u : S) (xs ys : List A) → Runs step s (xs ++ ys) u → (t : S) × Runs step s xs t × Runs step t ys u
  runs_parts s u [] ys a = (s, refl, a)
  runs_parts s u (x ∷ xs) ys a = let p = runs_parts a.0 u xs ys a.2 in (p.0, (a.0, a.1, p.1), p.2)

-- a run of an object whose records say both their answers and the state after them is a fold
module _ {S A : Type 0} (answers : S → A → Type 0) (after : S → A → S) where
  abbrev pub Steps : S → A → S → Type 0
  Steps s x t = answers s x × (t ≡ after s x)

  runs_fold : (s u : S) (xs : List A) → Runs Steps s xs u → EachAnswers answers after s xs × (u ≡ folded after s xs)
  runs_fold s u [] a = (tt, sym a)
  runs_fold s u (x ∷ xs) a =
      let t = runs_fold a.0 u xs a.2 in
      ((a.1.0, subst (λ z. EachAnswers answers after z xs) a.1.1 t.0), t.1 ∙ ap (λ z. folded after z xs) a.1.1)

  fold_runs : (s u : S) (xs : List A) → EachAnswers answers after s xs → u ≡ folded after s xs → Runs Steps s xs u
  fold_runs s u [] a e = sym e
  fold_runs s u (x ∷ xs) a e = (after s x, (a.0, refl), fold_runs (after s x) u xs a.1 e)

  pub runs_are_folds : (s u : S) (xs : List A) → Runs Steps s xs u ↔ (EachAnswers answers after s xs × (u ≡ folded after s xs))
  runs_are_folds s u xs = (runs_fold s u xs, λ p. fold_runs s u xs p.0 p.1)

-- what each step keeps, a run keeps
module _ {S A : Type 0} (step : S → A → S → Type 0) (P : S → Type 0) (keeps : (s : S) (x : A) (t : S) → step s x t → P s → P t) where
  pub runs_keep : (s u : S) (xs : List A) → Runs step s xs u → P s → P u
  runs_keep s u [] a p = subst P a p
  runs_keep s u (x ∷ xs) a p = runs_keep a.0 u xs a.2 (keeps s x a.0 a.1 p)

pub grows_append : {A : Type 0} (a b c : Option (List A)) (xs ys : List A) → Grows a b xs → Grows b c ys → Grows a c (xs ++ ys)
grows_append a b None xs ys g h = tt
grows_append a None (Some w) xs ys g h = absurd h
grows_append None (Some v) (Some w) xs ys g h = absurd g
grows_append (Some u) (Some v) (Some w) xs ys g h = h ∙ (ap (λ z. z ++ ys) g ∙ append_assoc u xs ys)

pub grows_keeps : {A : Type 0} (a b : Option (List A)) → Keeps a b → Grows a b []
grows_keeps a None k = tt
grows_keeps None (Some v) k = absurd (differ k)
  where
    differ : {X : Type 0} {v : X} → None ≡ Some v → ⊥
    differ e = cc
grows_keeps (Some u) (Some v) k = sym (inner k) ∙ sym (append-nil u)
  where
    inner : {X : Type 0} {y z : X} → Some y ≡ Some z → y ≡ z
    inner e = cc

pub grows_flat : {A B : Type 0} (f : A → List B) (a b : Option (List A)) (xs : List A) → Grows a b xs → Grows (option_map (flat_map f) a) (option_map (flat_map f) b) (flat_map f xs)
grows_flat f a None xs g = tt
grows_flat f None (Some v) xs g = absurd g
grows_flat f (Some u) (Some v) xs g = ap (flat_map f) g ∙ flat_map-append f u xs

pub rose_append : (n m a b c : ℕ) → Rose n a b → Rose m b c → Rose (n + m) a c
rose_append n m a b c (inl p) (inl q) = inl (omega arith)
rose_append n m a b c (inl p) (inr q) = inr q
rose_append n m a b c (inr p) (inl q) = inr (omega arith)
rose_append n m a b c (inr p) (inr q) = inr q

pub rose_none : (a : ℕ) → Rose 0 a a
rose_none a = inl (omega arith)

pub rose_one : (a b : ℕ) → Rises a b → Rose 1 a b
rose_one a b (inl p) = inl p
rose_one a b (inr p) = inr (omega arith)

module _ {R : Type 0} where
  pub records_append : (xs ys : List (Recorded R)) → records (xs ++ ys) ≡ records xs ++ records ys
  records_append [] ys = refl
  records_append (x ∷ xs) ys = ap (λ (l : List R). x.what ∷ l) (records_append xs ys)

  pub of_append : (w : ℕ) (xs ys : List (Recorded R)) → of w (xs ++ ys) ≡ of w xs ++ of w ys
  of_append w [] ys = refl
  of_append w (x ∷ xs) ys = elim (eqb x.by w) as (λ b. cond b (x.what ∷ of w (xs ++ ys)) (of w (xs ++ ys)) ≡ cond b (x.what ∷ of w xs) (of w xs) ++ of w ys) [
    | true ↦ ap (λ (l : List R). x.what ∷ l) (of_append w xs ys)
    | false ↦ of_append w xs ys
  ]

module _ {R N : Type 0} where
  pub given_append : (k : ℕ) (xs ys : List (LogItem R N)) → given k (xs ++ ys) ≡ given k xs ++ given k ys
  given_append k [] ys = refl
  given_append k (Given i r ∷ xs) ys = elim (eqb i k) as (λ b. cond b (r ∷ given k (xs ++ ys)) (given k (xs ++ ys)) ≡ cond b (r ∷ given k xs) (given k xs) ++ given k ys) [
    | true ↦ ap (λ (l : List R). r ∷ l) (given_append k xs ys)
    | false ↦ given_append k xs ys
  ]
  given_append k (Noted n ∷ xs) ys = given_append k xs ys
