-- The first `*/` of a text.
use Rattle.std.proofs.Common.{◌≡◌, ℕ, ◌+◌, true, false, List, [], ◌∷◌, ◌++◌, length, ◌==◌, refl, sym, ap, ◌∙◌, inl, inr, arith, Option, Some, None, option_map, length-append}
use Rattle.std.proofs.lemmas.Bool.{cases_Bool, eqb-true, eq-eqb, both_ways, and_parts}
use Rattle.std.proofs.lemmas.Option.{same_Some, none-some}
use Rattle.cfg_tree.specs.Variables.{begins_with}
use Rattle.cfg_lex.specs.Comments.{begins_end, before_end}
use Rattle.cfg_lex.specs.Tokens.{NoEnd}
use Rattle.cfg_lex.proofs.Ends.{found, more, nowhere}

-- what begins with an end
end_front : (a : ℕ) (xs : List ℕ) → begins_end (a ∷ xs) ≡ true → (a ≡ 42) × (begins_with 47 xs ≡ true)
unfolding begins_end
end_front a xs h = let p = and_parts (a == 42) (begins_with 47 xs) h in (eqb-true a 42 p.0, p.1)

slash_front : (xs : List ℕ) → begins_with 47 xs ≡ true → (ys : List ℕ) × (xs ≡ 47 ∷ ys)
slash_front [] h = absurd (both_ways _ refl h)
slash_front (x ∷ xs) h = (xs, ap (λ (n : ℕ). n ∷ xs) (eqb-true x 47 h))

is_end : (xs : List ℕ) → begins_end (42 ∷ 47 ∷ xs) ≡ true
unfolding begins_end
is_end xs = refl

-- after a byte of the comment
behind_byte : (a : ℕ) (xs : List ℕ) → NoEnd (a ∷ xs) → NoEnd xs
behind_byte a xs none = λ front back e. none (a ∷ front) back (ap (λ (ys : List ℕ). a ∷ ys) e)

no_end_here : (a : ℕ) (w rest : List ℕ) → NoEnd (a ∷ w ++ 42 ∷ []) → begins_end (a ∷ w ++ 42 ∷ 47 ∷ rest) ≡ true → ⊥
no_end_here a [] rest none h = let f = end_front a _ h in absurd (both_ways _ refl f.1)
no_end_here a (b ∷ w) rest none h =
    let f = end_front a _ h in
    let s = eqb-true b 47 f.1 in
    none [] (w ++ 42 ∷ []) (ap (λ (n : ℕ). n ∷ b ∷ w ++ 42 ∷ []) f.0 ∙ ap (λ (n : ℕ). 42 ∷ n ∷ w ++ 42 ∷ []) s)

pub end_again : (w rest : List ℕ) → NoEnd (w ++ 42 ∷ []) → before_end (w ++ 42 ∷ 47 ∷ rest) ≡ Some (length w)
end_again [] rest none = found 42 (47 ∷ rest) (is_end rest)
end_again (a ∷ w) rest none = elim (cases_Bool (begins_end (a ∷ w ++ 42 ∷ 47 ∷ rest))) [
  | inl t ↦ absurd (no_end_here a w rest none t)
  | inr f ↦ more a _ f ∙ ap (λ (o : Option ℕ). option_map (λ n. 1 + n) o) (end_again w rest (behind_byte a _ none))
      ∙ ap (λ (n : ℕ). Some n) (omega arith)
]

map_none : (k : ℕ) (o : Option ℕ) → option_map (λ n. k + n) o ≡ None → o ≡ None
map_none k None h = refl
map_none k (Some n) h = absurd (cc)

pub map_some : (k : ℕ) (o : Option ℕ) (n : ℕ) → option_map (λ m. k + m) o ≡ Some n → (m : ℕ) × (o ≡ Some m) × (n ≡ k + m)
map_some k None n h = absurd (cc)
map_some k (Some m) n h = (m, refl, sym (same_Some _ _ h))

an_end : (front back : List ℕ) → before_end (front ++ 42 ∷ 47 ∷ back) ≡ None → ⊥
an_end [] back h = none-some 0 (sym h ∙ found 42 (47 ∷ back) (is_end back))
an_end (a ∷ front) back h = elim (cases_Bool (begins_end (a ∷ front ++ 42 ∷ 47 ∷ back))) [
  | inl t ↦ none-some 0 (sym h ∙ found a _ t)
  | inr f ↦ an_end front back (map_none 1 _ (sym (more a _ f) ∙ h))
]

pub no_end : (text : List ℕ) → before_end text ≡ None → NoEnd text
no_end text h = λ front back e. an_end front back (ap before_end (sym e) ∙ h)

pub none_ends : (text : List ℕ) → NoEnd text → before_end text ≡ None
none_ends [] none = nowhere
none_ends (a ∷ text) none = elim (cases_Bool (begins_end (a ∷ text))) [
  | inl t ↦
      let f = end_front a text t in
      let s = slash_front text f.1 in
      absurd (none [] s.0 (ap (λ (n : ℕ). n ∷ text) f.0 ∙ ap (λ (ys : List ℕ). 42 ∷ ys) s.1))
  | inr f ↦ more a text f ∙ ap (λ (o : Option ℕ). option_map (λ n. 1 + n) o) (none_ends text (behind_byte a text none))
]

-- a comment that ends
pub record Ended (text : List ℕ) (k : ℕ) : Type 0 where
  pub w : List ℕ
  pub rest : List ℕ
  pub whole : text ≡ w ++ 42 ∷ 47 ∷ rest
  pub len : k ≡ length w
  pub none : NoEnd (w ++ 42 ∷ [])

only_star : NoEnd (42 ∷ [])
only_star = λ front back e. let n = ap length e in omega (arith, n, length-append front (42 ∷ 47 ∷ back))

pub head_is : (x y : ℕ) (xs ys : List ℕ) → x ∷ xs ≡ y ∷ ys → x ≡ y
head_is x y xs ys e = cc

pub tail_is : (x y : ℕ) (xs ys : List ℕ) → x ∷ xs ≡ y ∷ ys → xs ≡ ys
tail_is x y xs ys e = cc

-- a star, and a slash after it
ends_at_once : (v back rest : List ℕ) → v ++ 42 ∷ [] ≡ 47 ∷ back → begins_end (42 ∷ (v ++ 42 ∷ 47 ∷ rest)) ≡ true
unfolding begins_end
ends_at_once [] back rest e = absurd (omega (arith, head_is 42 47 [] back e))
ends_at_once (b ∷ v) back rest e = let s = eq-eqb b 47 (head_is b 47 _ back e) in rw s refl

-- a comment that doesn't end at its first byte
star_more : (a : ℕ) (w rest : List ℕ) → begins_end (a ∷ w ++ 42 ∷ 47 ∷ rest) ≡ false → NoEnd (w ++ 42 ∷ []) → (front back : List ℕ) →
    a ∷ (w ++ 42 ∷ []) ≡ front ++ 42 ∷ 47 ∷ back → ⊥
star_more a w rest f none [] back e =
    let star = head_is a 42 _ _ e in
    let once = ends_at_once w back rest (tail_is a 42 _ _ e) in
    both_ways _ f (ap (λ (n : ℕ). begins_end (n ∷ (w ++ 42 ∷ 47 ∷ rest))) star ∙ once)
star_more a w rest f none (b ∷ front) back e = none front back (tail_is a b _ _ e)

pub end_taken : (text : List ℕ) (k : ℕ) → before_end text ≡ Some k → Ended text k
end_taken [] k h = absurd (none-some k (sym nowhere ∙ h))
end_taken (a ∷ text) k h = elim (cases_Bool (begins_end (a ∷ text))) [
  | inl t ↦
      let f = end_front a text t in
      let s = slash_front text f.1 in
      let zero_is : 0 ≡ k = same_Some 0 k (sym (found a text t) ∙ h) in
      record {
        w = [];
        rest = s.0;
        whole = ap (λ (n : ℕ). n ∷ text) f.0 ∙ ap (λ (ys : List ℕ). 42 ∷ ys) s.1;
        len = sym zero_is;
        none = only_star;
      }
  | inr f ↦
      let m = map_some 1 (before_end text) k (sym (more a text f) ∙ h) in
      let r = end_taken text m.0 m.1 in
      record {
        w = a ∷ r.w;
        rest = r.rest;
        whole = ap (λ (ys : List ℕ). a ∷ ys) r.whole;
        len = m.2 ∙ ap (λ n. 1 + n) r.len ∙ omega arith;
        none = star_more a r.w r.rest (ap (λ (ys : List ℕ). begins_end (a ∷ ys)) (sym r.whole) ∙ f) r.none;
      }
]
