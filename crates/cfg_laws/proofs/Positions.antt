-- The place of the first that passes a test: there is one exactly where some one passes.
use Rattle.std.proofs.Common.{◌≡◌, ℕ, suc, ◌+◌, ◌==◌, ◌&&◌, Bool, true, false, not, cond, if◌then◌else◌, List, [], ◌∷◌, length, Option, Some, None, refl, sym, ap, ◌∙◌, subst, inl, inr, arith}
use Rattle.std.specs.Prelude.{option_map, position, nat_lt}
use Rattle.std.specs.List.{position_or_len}
use Rattle.std.proofs.lemmas.Bool.{false≢true}
use Rattle.std.proofs.lemmas.Bool.Decides.{nat_tests}
use Rattle.std.proofs.lemmas.Slice.Eq.{bytes_eq-Decides}
use Rattle.pv_values.specs.declared.block.BlockKind.TheVariants.{Request, Branch, Failure, Reply, Event}
use Rattle.cfg_tree.specs.declared.raw.RouteKind.{RouteKind}
use Rattle.cfg_tree.specs.declared.raw.RouteKind.TheVariants.{Route, Begins}
use Rattle.cfg_tree.specs.Functions.{kind_number, is_same_name, is_same_block}
use Rattle.cfg_laws.proofs.Telling.{In}

first : {X : Type 0} → (X → Bool) → List X → Option ℕ
first p [] = None
first p (x ∷ xs) = cond (p x) (Some 0) (option_map suc (first p xs))

later : (b : Bool) (n : ℕ) → cond b (Some (1 + n)) None ≡ option_map suc (cond b (Some n) None)
later true n = ap Some (omega arith)
later false n = refl

placed : (b : Bool) (n m : ℕ) → cond (nat_lt (cond (not b) (1 + n) 0) (suc m)) (Some (cond (not b) (1 + n) 0)) None ≡ cond b (Some 0) (option_map suc (cond (nat_lt n m) (Some n) None))
placed true n m = let some : nat_lt 0 (suc m) ≡ true = grind (arith, nat_tests) in rw some refl
placed false n m = let e : nat_lt (1 + n) (suc m) ≡ nat_lt n m = grind (arith, nat_tests) in rw e (later (nat_lt n m) n)

position_first : {X : Type 0} (p : X → Bool) (xs : List X) → position p xs ≡ first p xs
unfolding first
position_first p [] = refl
position_first p (x ∷ xs) = placed (p x) (position_or_len p xs) (length xs) ∙ ap (λ o. cond (p x) (Some 0) (option_map suc o)) (position_first p xs)

some_none : (n : ℕ) → Some n ≡ None → ⊥
some_none n e = cc

one_passes : (b : Bool) (o : Option ℕ) → b ≡ true → cond b (Some 0) (option_map suc o) ≡ None → ⊥
one_passes true o b e = some_none 0 e
one_passes false o b e = absurd (false≢true b)

rest_none : (b : Bool) (o : Option ℕ) → cond b (Some 0) (option_map suc o) ≡ None → o ≡ None
rest_none true o e = absurd (let f : Some 0 ≡ None = e in cc)
rest_none false None e = refl
rest_none false (Some n) e = absurd (let f : Some (suc n) ≡ None = e in cc)

none_of : {X : Type 0} (p : X → Bool) (xs : List X) → first p xs ≡ None → (x : X) → In x xs → p x ≡ true → ⊥
unfolding first
none_of p [] e x h t = h
none_of p (y ∷ ys) e x (inl is) t = one_passes (p y) (first p ys) (subst (λ z. p z ≡ true) (sym is) t) e
none_of p (y ∷ ys) e x (inr h) t = none_of p ys (rest_none (p y) (first p ys) e) x h t

by_first : {X : Type 0} (p : X → Bool) (y : X) (ys : List X) (b : Bool) → p y ≡ b → (n : ℕ) → cond b (Some 0) (option_map suc (first p ys)) ≡ Some n →
    ((m : ℕ) → first p ys ≡ Some m → (x : X) × In x ys × (p x ≡ true)) → (x : X) × In x (y ∷ ys) × (p x ≡ true)
by_first p y ys true is n e more = (y, inl refl, is)
by_first p y ys false is n e more = by_rest p y ys (first p ys) refl n e more
  where
    by_rest : {X : Type 0} (p : X → Bool) (y : X) (ys : List X) (o : Option ℕ) → o ≡ first p ys → (n : ℕ) → option_map suc o ≡ Some n →
        ((m : ℕ) → first p ys ≡ Some m → (x : X) × In x ys × (p x ≡ true)) → (x : X) × In x (y ∷ ys) × (p x ≡ true)
    by_rest p y ys None is n e more = absurd (let f : None ≡ Some n = e in cc)
    by_rest p y ys (Some m) is n e more = let k = more m (sym is) in (k.0, inr k.1, k.2)

some_one : {X : Type 0} (p : X → Bool) (xs : List X) (n : ℕ) → first p xs ≡ Some n → (x : X) × In x xs × (p x ≡ true)
unfolding first
some_one p [] n e = absurd (let f : None ≡ Some n = e in cc)
some_one p (y ∷ ys) n e = by_first p y ys (p y) refl n e (some_one p ys)

pub position_none : {X : Type 0} (p : X → Bool) (xs : List X) → position p xs ≡ None → (x : X) → In x xs → p x ≡ true → ⊥
position_none p xs e = none_of p xs (sym (position_first p xs) ∙ e)

pub position_one : {X : Type 0} (p : X → Bool) (xs : List X) (n : ℕ) → position p xs ≡ Some n → (x : X) × In x xs × (p x ≡ true)
position_one p xs n e = some_one p xs n (sym (position_first p xs) ∙ e)

-- ---- blocks of one kind and name

kind_at : ℕ → RouteKind
kind_at n = if n == 0 then Route else if n == 1 then Begins Request else if n == 2 then Begins Branch else if n == 3 then Begins Failure else if n == 4 then Begins Reply else Begins Event

kind_of_number : (k : RouteKind) → kind_at (kind_number k) ≡ k
unfolding kind_at
kind_of_number Route = refl
kind_of_number (Begins Request) = refl
kind_of_number (Begins Branch) = refl
kind_of_number (Begins Failure) = refl
kind_of_number (Begins Reply) = refl
kind_of_number (Begins Event) = refl

same_kind : (a b : RouteKind) → (kind_number a == kind_number b) ≡ true → a ≡ b
same_kind a b h =
    let e : kind_number a ≡ kind_number b = grind (arith, nat_tests) in
    sym (kind_of_number a) ∙ ap kind_at e ∙ kind_of_number b

same_name : (a b : Option (List ℕ)) → is_same_name a b ≡ true → a ≡ b
same_name None None h = refl
same_name None (Some b) h = absurd (false≢true h)
same_name (Some a) None h = absurd (false≢true h)
same_name (Some a) (Some b) h = ap Some ((bytes_eq-Decides a b).0 h)

both_true : (a b : Bool) → (a && b) ≡ true → (a ≡ true) × (b ≡ true)
both_true true true h = (refl, refl)
both_true true false h = absurd (false≢true h)
both_true false b h = absurd (false≢true h)

pub same_block : (a b : RouteKind × Option (List ℕ)) → is_same_block a b ≡ true → (a.0 ≡ b.0) × (a.1 ≡ b.1)
same_block a b h =
    let each = both_true (kind_number a.0 == kind_number b.0) (is_same_name a.1 b.1) h in
    (same_kind a.0 b.0 each.0, same_name a.1 b.1 each.1)

name_itself : (a : Option (List ℕ)) → is_same_name a a ≡ true
name_itself None = refl
name_itself (Some a) = (bytes_eq-Decides a a).1 refl

pub block_itself : (a : RouteKind × Option (List ℕ)) → is_same_block a a ≡ true
block_itself a =
    let kind : (kind_number a.0 == kind_number a.0) ≡ true = grind (arith, nat_tests) in
    rw (kind, name_itself a.1) refl

pub block_from : (a b : RouteKind × Option (List ℕ)) → a.0 ≡ b.0 → a.1 ≡ b.1 → is_same_block a b ≡ true
block_from a b kind name =
    let e : is_same_block a a ≡ is_same_block a b = ap (λ k. is_same_block a (k, a.1)) kind ∙ ap (λ n. is_same_block a (b.0, n)) name in
    sym e ∙ block_itself a
