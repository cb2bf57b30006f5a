-- Strings: their parts, and what is read of them.
use Rattle.std.proofs.Common.{◌≡◌, ◌≢◌, ◌⊎◌, ℕ, ◌+◌, true, false, List, [], ◌∷◌, ◌++◌, length, ◌==◌, refl, sym, subst, ap, ◌∙◌, inl, inr, arith, Option, Some, None, option_map, length-append, append_assoc}
use Rattle.std.specs.Prelude.{map}
use Rattle.std.specs.List.{AllByRecursion}
use Rattle.std.proofs.lemmas.Bool.{cases_Bool, cases_eq, eq-eqb, ne_eqb}
use Rattle.std.proofs.lemmas.Option.{same_Some, none-some}
use Rattle.cfg_lex.specs.Strings.{is_escape, escaped, before_quote, is_bad, bad_escape, unescaped}
use Rattle.cfg_lex.specs.Tokens.{StringPart, Itself, Escaped, written, meant, IsPart, IsKnown, all_written}
use Rattle.cfg_lex.proofs.EndLaw.{map_some}
use Rattle.cfg_lex.proofs.Quotes.{closes, pair, goes, nowhere, bad, known}

ones : (o : Option ℕ) (n m : ℕ) → o ≡ Some n → 1 + n ≡ m → option_map (λ k. 1 + k) o ≡ Some m
ones o n m h e = ap (λ (p : Option ℕ). option_map (λ k. 1 + k) p) h ∙ ap (λ (k : ℕ). Some k) e

twos : (o : Option ℕ) (n m : ℕ) → o ≡ Some n → 2 + n ≡ m → option_map (λ k. 2 + k) o ≡ Some m
twos o n m h e = ap (λ (p : Option ℕ). option_map (λ k. 2 + k) p) h ∙ ap (λ (k : ℕ). Some k) e

no_ones : (k : ℕ) (o : Option ℕ) → o ≡ None → option_map (λ n. k + n) o ≡ None
no_ones k o h = ap (λ (p : Option ℕ). option_map (λ n. k + n) p) h

slash_no : (q : ℕ) → q ≢ 92 → (92 == q) ≡ false
slash_no q h = ne_eqb 92 q (λ e. h (sym e))

-- ---- the quote that closes

pub quote_again : (q : ℕ) (ps : List StringPart) (rest : List ℕ) → q ≢ 92 → AllByRecursion (IsPart q) ps →
    before_quote q (all_written ps ++ q ∷ rest) ≡ Some (length (all_written ps))
quote_again q [] rest n a = closes q q rest (eq-eqb q q refl)
quote_again q (Itself b ∷ ps) rest n a =
    goes q b _ (ne_eqb _ _ a.0.0) (ne_eqb _ _ a.0.1) ∙ ones _ _ _ (quote_again q ps rest n a.1) (omega arith)
quote_again q (Escaped b ∷ ps) rest n a =
    pair q _ (slash_no q n) ∙ twos _ _ _ (quote_again q ps rest n a.1) (omega arith)

pub open_again : (q : ℕ) (ps : List StringPart) (tail : List ℕ) → q ≢ 92 → AllByRecursion (IsPart q) ps → before_quote q tail ≡ None →
    before_quote q (all_written ps ++ tail) ≡ None
open_again q [] tail n a h = h
open_again q (Itself b ∷ ps) tail n a h =
    goes q b _ (ne_eqb _ _ a.0.0) (ne_eqb _ _ a.0.1) ∙ no_ones 1 _ (open_again q ps tail n a.1 h)
open_again q (Escaped b ∷ ps) tail n a h = pair q _ (slash_no q n) ∙ no_ones 2 _ (open_again q ps tail n a.1 h)

pub open_end : (q : ℕ) → before_quote q [] ≡ None
open_end q = nowhere q

pub open_slash : (q : ℕ) → q ≢ 92 → before_quote q (92 ∷ []) ≡ None
open_slash q n = pair q [] (slash_no q n) ∙ no_ones 2 _ (nowhere q)

pub record Closed (q : ℕ) (text : List ℕ) (k : ℕ) : Type 0 where
  pub ps : List StringPart
  pub rest : List ℕ
  pub whole : text ≡ all_written ps ++ q ∷ rest
  pub len : k ≡ length (all_written ps)
  pub all : AllByRecursion (IsPart q) ps

closed_here : (q b : ℕ) (text : List ℕ) (k : ℕ) → b ≡ q → before_quote q (b ∷ text) ≡ Some k → Closed q (b ∷ text) k
closed_here q b text k e h =
    let zero_is : 0 ≡ k = same_Some 0 k (sym (closes q b text (eq-eqb b q e)) ∙ h) in
    record { ps = []; rest = text; whole = ap (λ (n : ℕ). n ∷ text) e; len = sym zero_is; all = tt }

closed_later : (q b : ℕ) (text : List ℕ) (k m : ℕ) → b ≢ q → b ≢ 92 → k ≡ 1 + m → Closed q text m → Closed q (b ∷ text) k
closed_later q b text k m nq ns e r = record {
  ps = Itself b ∷ r.ps;
  rest = r.rest;
  whole = ap (λ (xs : List ℕ). b ∷ xs) r.whole;
  len = e ∙ ap (λ n. 1 + n) r.len ∙ omega arith;
  all = ((nq, ns), r.all);
}

closed_pair : (q c : ℕ) (text : List ℕ) (k m : ℕ) → k ≡ 2 + m → Closed q text m → Closed q (92 ∷ c ∷ text) k
closed_pair q c text k m e r = record {
  ps = Escaped c ∷ r.ps;
  rest = r.rest;
  whole = ap (λ (xs : List ℕ). 92 ∷ c ∷ xs) r.whole;
  len = e ∙ ap (λ n. 2 + n) r.len ∙ omega arith;
  all = (tt, r.all);
}

pub quote_taken : (q : ℕ) (text : List ℕ) (k : ℕ) → before_quote q text ≡ Some k → Closed q text k
quote_taken q [] k h = absurd (none-some k (sym (nowhere q) ∙ h))
quote_taken q (b ∷ []) k h = elim (cases_eq b q) [
  | inl e ↦ closed_here q b [] k e h
  | inr n ↦ elim (cases_eq b 92) [
    | inl s ↦
        let P : ℕ → Type 0 = λ m. before_quote q (m ∷ []) ≡ Some k in
        let m = map_some 2 _ k (sym (pair q [] (slash_no q (λ e. n (s ∙ sym e)))) ∙ subst P s h) in
        absurd (none-some m.0 (sym (nowhere q) ∙ m.1))
    | inr s ↦ let m = map_some 1 _ k (sym (goes q b [] (ne_eqb b q n) (ne_eqb b 92 s)) ∙ h) in absurd (none-some m.0 (sym (nowhere q) ∙ m.1))
  ]
]
quote_taken q (b ∷ c ∷ text) k h = elim (cases_eq b q) [
  | inl e ↦ closed_here q b (c ∷ text) k e h
  | inr n ↦ elim (cases_eq b 92) [
    | inl s ↦
        let P : ℕ → Type 0 = λ m. before_quote q (m ∷ c ∷ text) ≡ Some k in
        let m = map_some 2 (before_quote q text) k (sym (pair q (c ∷ text) (slash_no q (λ e. n (s ∙ sym e)))) ∙ subst P s h) in
        subst (λ (i : ℕ). Closed q (i ∷ c ∷ text) k) (sym s) (closed_pair q c text k m.0 m.2 (quote_taken q text m.0 m.1))
    | inr s ↦
        let m = map_some 1 (before_quote q (c ∷ text)) k (sym (goes q b (c ∷ text) (ne_eqb b q n) (ne_eqb b 92 s)) ∙ h) in
        closed_later q b (c ∷ text) k m.0 n s m.2 (quote_taken q (c ∷ text) m.0 m.1)
  ]
]

-- a string that the text doesn't close
pub record Open (q : ℕ) (text : List ℕ) : Type 0 where
  pub ps : List StringPart
  pub whole : (text ≡ all_written ps) ⊎ (text ≡ all_written ps ++ 92 ∷ [])
  pub all : AllByRecursion (IsPart q) ps

more_open : (q : ℕ) (p : StringPart) (text : List ℕ) → IsPart q p → Open q text → Open q (written p ++ text)
more_open q p text is r = record {
  ps = p ∷ r.ps;
  whole = elim r.whole [
    | inl e ↦ inl (ap (λ (xs : List ℕ). written p ++ xs) e)
    | inr e ↦ inr (ap (λ (xs : List ℕ). written p ++ xs) e ∙ sym (append_assoc (written p) (all_written r.ps) (92 ∷ [])))
  ];
  all = (is, r.all);
}

some_one : (k : ℕ) (o : Option ℕ) → option_map (λ n. k + n) o ≡ None → o ≡ None
some_one k None h = refl
some_one k (Some n) h = absurd (cc)

pub open_taken : (q : ℕ) (text : List ℕ) → q ≢ 92 → before_quote q text ≡ None → Open q text
open_taken q [] nq h = record { ps = []; whole = inl refl; all = tt }
open_taken q (b ∷ []) nq h = elim (cases_eq b q) [
  | inl e ↦ absurd (none-some 0 (sym h ∙ closes q b [] (eq-eqb b q e)))
  | inr n ↦ elim (cases_eq b 92) [
    | inl s ↦ record { ps = []; whole = inr (ap (λ (m : ℕ). m ∷ []) s); all = tt }
    | inr s ↦ more_open q (Itself b) [] (n, s) (record { ps = []; whole = inl refl; all = tt })
  ]
]
open_taken q (b ∷ c ∷ text) nq h = elim (cases_eq b q) [
  | inl e ↦ absurd (none-some 0 (sym h ∙ closes q b (c ∷ text) (eq-eqb b q e)))
  | inr n ↦ elim (cases_eq b 92) [
    | inl s ↦
        let P : ℕ → Type 0 = λ m. before_quote q (m ∷ c ∷ text) ≡ None in
        let r = open_taken q text nq (some_one 2 _ (sym (pair q (c ∷ text) (slash_no q nq)) ∙ subst P s h)) in
        subst (λ (i : ℕ). Open q (i ∷ c ∷ text)) (sym s) (more_open q (Escaped c) text tt r)
    | inr s ↦
        let r = open_taken q (c ∷ text) nq (some_one 1 _ (sym (goes q b (c ∷ text) (ne_eqb b q n) (ne_eqb b 92 s)) ∙ h)) in
        more_open q (Itself b) (c ∷ text) (n, s) r
  ]
]

-- ---- escapes

bad_later : (b : ℕ) (text : List ℕ) → b ≢ 92 → bad_escape (b ∷ text) ≡ option_map (λ n. 1 + n) (bad_escape text)
unfolding bad_escape
bad_later b [] h = refl
bad_later b (c ∷ text) h = let n = ne_eqb b 92 h in rw n refl

bad_is : (c : ℕ) → is_escape c ≡ false → is_bad 92 c ≡ true
bad_is c h = rw h refl

good_is : (c : ℕ) → is_escape c ≡ true → is_bad 92 c ≡ false
good_is c h = rw h refl

good_later : (c : ℕ) (text : List ℕ) → is_escape c ≡ true → bad_escape (92 ∷ c ∷ text) ≡ option_map (λ n. 2 + n) (bad_escape text)
good_later c text h = known 92 c text (good_is c h) refl

nothing_bad : bad_escape [] ≡ None
unfolding bad_escape
nothing_bad = refl

pub known_again : (q : ℕ) (ps : List StringPart) → AllByRecursion (IsPart q) ps → AllByRecursion IsKnown ps → bad_escape (all_written ps) ≡ None
known_again q [] a k = nothing_bad
known_again q (Itself b ∷ ps) a k = bad_later b (all_written ps) a.0.1 ∙ no_ones 1 _ (known_again q ps a.1 k.1)
known_again q (Escaped b ∷ ps) a k = good_later b (all_written ps) k.0 ∙ no_ones 2 _ (known_again q ps a.1 k.1)

pub bad_again : (q : ℕ) (ps more : List StringPart) (b : ℕ) → AllByRecursion (IsPart q) (ps ++ Escaped b ∷ more) → AllByRecursion IsKnown ps →
    is_escape b ≡ false → bad_escape (all_written (ps ++ Escaped b ∷ more)) ≡ Some (length (all_written ps))
bad_again q [] more b a k h = bad 92 b (all_written more) (bad_is b h)
bad_again q (Itself c ∷ ps) more b a k h = bad_later c _ a.0.1 ∙ ones _ _ _ (bad_again q ps more b a.1 k.1 h) (omega arith)
bad_again q (Escaped c ∷ ps) more b a k h = good_later c _ k.0 ∙ twos _ _ _ (bad_again q ps more b a.1 k.1 h) (omega arith)

pub known_taken : (q : ℕ) (ps : List StringPart) → AllByRecursion (IsPart q) ps → bad_escape (all_written ps) ≡ None → AllByRecursion IsKnown ps
known_taken q [] a h = tt
known_taken q (Itself b ∷ ps) a h = (tt, known_taken q ps a.1 (some_one 1 _ (sym (bad_later b (all_written ps) a.0.1) ∙ h)))
known_taken q (Escaped b ∷ ps) a h = elim (cases_Bool (is_escape b)) [
  | inl t ↦ (t, known_taken q ps a.1 (some_one 2 _ (sym (good_later b (all_written ps) t) ∙ h)))
  | inr f ↦ absurd (none-some 0 (sym h ∙ bad 92 b (all_written ps) (bad_is b f)))
]

-- the first bad escape among these parts
pub record FirstBad (ps : List StringPart) (j : ℕ) : Type 0 where
  pub front : List StringPart
  pub b : ℕ
  pub more : List StringPart
  pub whole : ps ≡ front ++ Escaped b ∷ more
  pub known : AllByRecursion IsKnown front
  pub is_bad : is_escape b ≡ false
  pub len : j ≡ length (all_written front)

more_bad : (p : StringPart) (ps : List StringPart) (j m : ℕ) → IsKnown p → j ≡ length (written p) + m → FirstBad ps m → FirstBad (p ∷ ps) j
more_bad p ps j m is e r = record {
  front = p ∷ r.front;
  b = r.b;
  more = r.more;
  whole = ap (λ (xs : List StringPart). p ∷ xs) r.whole;
  known = (is, r.known);
  is_bad = r.is_bad;
  len = omega (arith, e, r.len, length-append (written p) (all_written r.front));
}

pub bad_taken : (q : ℕ) (ps : List StringPart) (j : ℕ) → AllByRecursion (IsPart q) ps → bad_escape (all_written ps) ≡ Some j → FirstBad ps j
bad_taken q [] j a h = absurd (none-some j (sym nothing_bad ∙ h))
bad_taken q (Itself b ∷ ps) j a h =
    let m = map_some 1 _ j (sym (bad_later b (all_written ps) a.0.1) ∙ h) in
    more_bad (Itself b) ps j m.0 tt m.2 (bad_taken q ps m.0 a.1 m.1)
bad_taken q (Escaped b ∷ ps) j a h = elim (cases_Bool (is_escape b)) [
  | inl t ↦
      let m = map_some 2 _ j (sym (good_later b (all_written ps) t) ∙ h) in
      more_bad (Escaped b) ps j m.0 t m.2 (bad_taken q ps m.0 a.1 m.1)
  | inr f ↦
      let zero_is : 0 ≡ j = same_Some 0 j (sym (bad 92 b (all_written ps) (bad_is b f)) ∙ h) in
      record { front = []; b = b; more = ps; whole = refl; known = tt; is_bad = f; len = sym zero_is }
]

-- ---- the bytes that are meant

meant_later : (b : ℕ) (text : List ℕ) → b ≢ 92 → unescaped (b ∷ text) ≡ b ∷ unescaped text
unfolding unescaped
meant_later b [] h = refl
meant_later b (c ∷ text) h = let n = ne_eqb b 92 h in rw n refl

meant_pair : (c : ℕ) (text : List ℕ) → unescaped (92 ∷ c ∷ text) ≡ escaped c ∷ unescaped text
unfolding unescaped
meant_pair c text = refl

meant_none : unescaped [] ≡ []
unfolding unescaped
meant_none = refl

pub meant_again : (q : ℕ) (ps : List StringPart) → AllByRecursion (IsPart q) ps → unescaped (all_written ps) ≡ map meant ps
meant_again q [] a = meant_none
meant_again q (Itself b ∷ ps) a = meant_later b (all_written ps) a.0.1 ∙ ap (λ (xs : List ℕ). b ∷ xs) (meant_again q ps a.1)
meant_again q (Escaped b ∷ ps) a = meant_pair b (all_written ps) ∙ ap (λ (xs : List ℕ). escaped b ∷ xs) (meant_again q ps a.1)
