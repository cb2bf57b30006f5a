-- Items, one after the other, and how they are read one by one.
use Rattle.std.specs.Prelude.{ℕ, zero, suc, ◌+◌, ◌<◌, ◌≤◌, List, [], ◌∷◌, ◌++◌, length, Option, Some, None}
use Rattle.std.proofs.Common.{◌≡◌, refl, sym, ap, subst, ◌∙◌, append_assoc, append-nil, arith, length-append}
use Rattle.cfg_tree.specs.declared.token.Token.{Token}
use Rattle.cfg_parse.specs.Reader.{Reader, go_on, many_from, many}
use Rattle.cfg_parse.proofs.law.Steps.{OnRead, found, and_so, weaker, read_then, Front, Takes}

pub data Several {A : Type 0} (Item : List Token → A → Type 0) : List Token → List A → Type 0 where
  none : Several Item [] []
  more : (ts us : List Token) (a : A) (xs : List A) → Item ts a → Several Item us xs → Several Item (ts ++ us) (a ∷ xs)

-- a step: an item, or nothing at all
abbrev pub OnStep : {A : Type 0} (Item : List Token → A → Type 0) → List Token → Option A → List Token → Type 0
OnStep Item ts None rest = ts ≡ rest
OnStep Item ts (Some a) rest = Front Item ts a rest

-- after those that were found
abbrev pub Behind : {A : Type 0} (Item : List Token → A → Type 0) → List A → List Token → List A → Type 0
Behind {A} Item before us xs = (items : List A) × (xs ≡ before ++ items) × Several Item us items

module _ {A : Type 0} (Item : List Token → A → Type 0) (step : Reader (Option A)) (takes : (ts : List Token) → OnRead (OnStep Item ts) (step ts)) where
  pub many_from_takes : (n : ℕ) (before : List A) (ts : List Token) → OnRead (Front (Behind Item before) ts) (many_from step n before ts)
  unfolding many_from
  many_from_takes zero before ts = found before ts (record { front = []; whole = refl; is = ([], sym (append-nil before), none) })
  many_from_takes (suc n) before ts = and_so (takes ts) (λ next mid s. by next mid s (λ x. many_from_takes n (before ++ x ∷ []) mid))
    where
      by : (next : Option A) (mid : List Token) → OnStep Item ts next mid → ((x : A) → OnRead (Front (Behind Item (before ++ x ∷ [])) mid) (many_from step n (before ++ x ∷ []) mid)) → OnRead (Front (Behind Item before) ts) (go_on next before (many_from step n) mid)
      by None mid e h = found before mid (record { front = []; whole = e; is = ([], sym (append-nil before), none) })
      by (Some x) mid s h = weaker (h x) (λ xs rest f. record { front = s.front ++ f.front; whole = s.whole ∙ ap (λ us. s.front ++ us) f.whole ∙ sym (append_assoc s.front f.front rest); is = (x ∷ f.is.0, f.is.1 ∙ append_assoc before (x ∷ []) f.is.0, more s.front f.front x f.is.0 s.is f.is.2) })

  pub behind_takes : (before : List A) → Takes (Behind Item before) (many step before)
  unfolding many
  behind_takes before ts = many_from_takes (length ts) before ts

  pub many_takes : Takes (Several Item) (many step [])
  many_takes ts = weaker (behind_takes [] ts) (λ xs rest f. record { front = f.front; whole = f.whole; is = subst (Several Item f.front) (sym f.is.1) f.is.2 })

module _ {A : Type 0} (Item : List Token → A → Type 0) (step : Reader (Option A)) (Follows : List Token → Type 0)
    (again : (us : List Token) (a : A) (rest : List Token) → Item us a → Follows rest → step (us ++ rest) ≡ Some (Some a, rest))
    (starts : (us : List Token) (a : A) (rest : List Token) → Item us a → Follows (us ++ rest))
    (some : (us : List Token) (a : A) → Item us a → 0 < length us) where
  pub follows : (us : List Token) (items : List A) (rest : List Token) → Several Item us items → Follows rest → Follows (us ++ rest)
  follows _ _ rest none f = f
  follows _ _ rest (more ts us a xs i s) f = subst Follows (sym (append_assoc ts us rest)) (starts ts a (us ++ rest) i)

  pub many_from_again : (us : List Token) (items : List A) (rest : List Token) → Several Item us items → Follows rest → step rest ≡ Some (None, rest) → (n : ℕ) (before : List A) → length us + length rest ≤ n → many_from step n before (us ++ rest) ≡ Some (before ++ items, rest)
  unfolding many_from
  many_from_again _ _ rest none f e zero before l = ap (λ (xs : List A). Some (xs, rest)) (sym (append-nil before))
  many_from_again _ _ rest none f e (suc n) before l = read_then _ e (ap (λ (xs : List A). Some (xs, rest)) (sym (append-nil before)))
  many_from_again _ _ rest (more ts us a xs i s) f e zero before l = let o = some ts a i in let k = length-append ts us in absurd (omega arith)
  many_from_again _ _ rest (more ts us a xs i s) f e (suc n) before l =
      let o = some ts a i in
      let k = length-append ts us in
      let first : step (ts ++ (us ++ rest)) ≡ Some (Some a, us ++ rest) = again ts a (us ++ rest) i (follows us xs rest s f) in
      rw (append_assoc ts us rest) (read_then _ first (many_from_again us xs rest s f e n (before ++ a ∷ []) (omega arith) ∙ ap (λ (xs : List A). Some (xs, rest)) (append_assoc before (a ∷ []) xs)))

  pub many_again : (us : List Token) (items : List A) (rest : List Token) → Several Item us items → Follows rest → step rest ≡ Some (None, rest) → (before : List A) → many step before (us ++ rest) ≡ Some (before ++ items, rest)
  unfolding many
  many_again us items rest s f e before = many_from_again us items rest s f e (length (us ++ rest)) before (omega (arith, length-append us rest))
