-- What is read is spelled by the grammar.
use Rattle.std.proofs.Common.{◌≡◌, ◌≢◌, ℕ, suc, ◌+◌, ◌-◌, ◌<◌, ◌≤◌, Bool, true, false, cond, List, [], ◌∷◌, ◌++◌, length, take, drop, refl, subst, sym, ap, ◌∙◌, inl, inr, arith, Option, Some, None, option_map, append_assoc, length-append}
use Rattle.std.specs.Prelude.{slice_get, slice_range, ◌⊎◌, nat_lt, IfSome}
use Rattle.std.specs.List.{flat_map, AllByRecursion, prefix_len}
use Rattle.std.specs.Str.{str_eq_ignore_ascii_case}
use Rattle.std.specs.Str.Parse.{digits_value}
use Rattle.std.proofs.lemmas.Bool.{eq-eqb, eqb-true, ne_eqb, cases_eq, both_ways, cases_Bool, ltb-true, ltb-false}
use Rattle.std.proofs.lemmas.List.{drop-drop, drop_more, append-nil, take-append-drop}
use Rattle.std.proofs.lemmas.Option.{cond_some, same_Some, none-some, slice_get_within, get_or_from_slice_get}
use Rattle.sip_words.specs.declared.bytes.Class.{Class}
use Rattle.sip_words.specs.declared.bytes.Class.TheVariants.{Token, Digit}
use Rattle.sip_words.specs.declared.separators.Separator.{Separator}
use Rattle.sip_words.specs.declared.separators.Surroundings.{Surroundings}
use Rattle.sip_words.specs.declared.separators.Surroundings.TheVariants.{Field, Uri}
use Rattle.sip_words.specs.declared.params.Param.{Param}
use Rattle.sip_words.specs.Bytes.{has, is_wsp}
use Rattle.sip_words.specs.Spans.{span}
use Rattle.sip_words.specs.Words.{run_end, word_at, word_end, is_fold, blank_len, lws_len, lws_end, gap_end, quoted_len, quoted_end, stands}
use Rattle.sip_words.specs.Separators.{skip, separator_at}
use Rattle.sip_words.specs.Numbers.{number_at}
use Rattle.sip_words.specs.Many.{Repeats}
use Rattle.sip_words.specs.Params.{value_class, value_end, param_at, next_param, params_at}
use Rattle.sip_words.specs.Grammar.{Blank, Space, Tab, FoldSpace, FoldTab, blank, lws, NoBlank, SeparatorTree, separator, IsSpacing, IsSeparator, separator_place, IsWord, Quotable, Plain, Escaped, quotable, IsQuotable, ValueTree, Bare, Quoted, value, IsValue, ParamTree, assigned, param, IsParam, value_place, param_place, params, param_places}
use Rattle.sip_words.proofs.Runs.{is_none, closes}
use Rattle.sip_words.proofs.Digits.{word_is}
use Rattle.sip_words.proofs.ManyLaws.{many_repeats}
use Rattle.sip_words.proofs.Steps.{bind_some, stands_is, item_is, done_is}
use Rattle.sip_words.proofs.Pieces.{one_blank, part_is, same_length}

-- from i to j stands w
pub record Takes (text : List ℕ) (i j : ℕ) (w : List ℕ) : Type 0 where
  pub whole : drop i text ≡ w ++ drop j text
  pub end : j ≡ i + length w

pub then : {text : List ℕ} {i j k : ℕ} {v w : List ℕ} → Takes text i j v → Takes text j k w → Takes text i k (v ++ w)
then {text} {i} {j} {k} {v} {w} a b = record {
  whole = a.whole ∙ ap (λ xs. v ++ xs) b.whole ∙ sym (append_assoc v w (drop k text));
  end = omega (arith, a.end, b.end, length-append v w);
}

-- a split of a list by a length
pub takes : (text : List ℕ) (i n : ℕ) (w : List ℕ) → drop i text ≡ w ++ drop n (drop i text) → n ≡ length w → Takes text i (i + n) w
takes text i n w h len = record { whole = h ∙ ap (λ xs. w ++ xs) (drop-drop n i text); end = omega arith }

wsp_is : (a : ℕ) → is_wsp a ≡ true → (a ≡ 32) ⊎ (a ≡ 9)
wsp_is a h = elim (cases_eq a 32) [ inl e ↦ inl e | inr ne ↦ inr (eqb-true a 9 (rw (ne_eqb a 32 ne) at h)) ]

fold_is : (a b c : ℕ) → is_fold a b c ≡ true → (a ≡ 13) × (b ≡ 10) × (is_wsp c ≡ true)
fold_is a b c h = elim (cases_eq a 13) [
  | inl e ↦ elim (cases_eq b 10) [
    | inl f ↦ (e, f, rw (eq-eqb a 13 e, eq-eqb b 10 f) at h)
    | inr ne ↦ absurd (both_ways _ (rw (eq-eqb a 13 e, ne_eqb b 10 ne) refl) h)
  ]
  | inr ne ↦ absurd (both_ways _ (rw (ne_eqb a 13 ne) refl) h)
]

wsp_first : (a : ℕ) (xs : List ℕ) → is_wsp a ≡ true → NoBlank (a ∷ xs) → ⊥
wsp_first a xs t h = elim (wsp_is a t) [ inl e ↦ h Space xs (ap (λ (n : ℕ). n ∷ xs) e) | inr e ↦ h Tab xs (ap (λ (n : ℕ). n ∷ xs) e) ]

fold_first : (a b c : ℕ) (xs : List ℕ) → is_fold a b c ≡ true → NoBlank (a ∷ b ∷ c ∷ xs) → ⊥
fold_first a b c xs t h =
    let f = fold_is a b c t in
    let front : (d : ℕ) → c ≡ d → a ∷ b ∷ c ∷ xs ≡ 13 ∷ 10 ∷ d ∷ xs = λ d e. ap (λ (n : ℕ). n ∷ b ∷ c ∷ xs) f.0 ∙ ap (λ (n : ℕ). 13 ∷ n ∷ c ∷ xs) f.1 ∙ ap (λ (n : ℕ). 13 ∷ 10 ∷ n ∷ xs) e in
    elim (wsp_is c f.2) [ inl e ↦ h FoldSpace xs (front 32 e) | inr e ↦ h FoldTab xs (front 9 e) ]

pub no_blank : (xs : List ℕ) → NoBlank xs → blank_len xs ≡ 0
unfolding blank_len
no_blank [] h = refl
no_blank (a ∷ []) h = elim (cases_Bool (is_wsp a)) [ inl t ↦ absurd (wsp_first a [] t h) | inr f ↦ rw f refl ]
no_blank (a ∷ b ∷ []) h = elim (cases_Bool (is_wsp a)) [ inl t ↦ absurd (wsp_first a (b ∷ []) t h) | inr f ↦ rw f refl ]
no_blank (a ∷ b ∷ c ∷ xs) h = elim (cases_Bool (is_wsp a)) [
  | inl t ↦ absurd (wsp_first a (b ∷ c ∷ xs) t h)
  | inr f ↦ elim (cases_Bool (is_fold a b c)) [ inl t ↦ absurd (fold_first a b c xs t h) | inr g ↦ rw (f, g) refl ]
]

one_front : (b : ℕ) (w : List ℕ) → is_wsp b ≡ true → blank_len (b ∷ w) ≡ 1
unfolding blank_len
one_front b [] h = rw h refl
one_front b (c ∷ []) h = rw h refl
one_front b (c ∷ d ∷ w) h = rw h refl

blank_front : (b : Blank) (w : List ℕ) → blank_len (blank b ++ w) ≡ 0 → ⊥
unfolding blank_len
blank_front Space w h = absurd (omega (arith, one_front 32 w refl))
blank_front Tab w h = absurd (omega (arith, one_front 9 w refl))
blank_front FoldSpace w h = absurd (omega arith)
blank_front FoldTab w h = absurd (omega arith)

pub none_blank : (xs : List ℕ) → blank_len xs ≡ 0 → NoBlank xs
none_blank xs h = λ b w e. blank_front b w (sym (ap blank_len e) ∙ h)

record Blanks (xs : List ℕ) : Type 0 where
  blanks : List Blank
  whole : xs ≡ lws blanks ++ drop (lws_len xs) xs
  len : lws_len xs ≡ length (lws blanks)
  none : blank_len (drop (lws_len xs) xs) ≡ 0

no_blanks : (xs : List ℕ) → blank_len xs ≡ 0 → Blanks xs
no_blanks xs h = let n = is_none xs h in record { blanks = []; whole = rw n refl; len = n; none = rw n h }

one_more : (a : ℕ) (xs : List ℕ) → is_wsp a ≡ true → Blanks xs → Blanks (a ∷ xs)
one_more a xs h r =
    let n : lws_len (a ∷ xs) ≡ suc (lws_len xs) = one_blank a xs h ∙ omega arith in
    elim (wsp_is a h) [
      | inl e ↦ record { blanks = Space ∷ r.blanks; whole = rw (n, e) (ap (λ (ys : List ℕ). 32 ∷ ys) r.whole); len = n ∙ ap (λ k. suc k) r.len; none = rw n r.none }
      | inr e ↦ record { blanks = Tab ∷ r.blanks; whole = rw (n, e) (ap (λ (ys : List ℕ). 9 ∷ ys) r.whole); len = n ∙ ap (λ k. suc k) r.len; none = rw n r.none }
    ]

fold_len : (a b c : ℕ) (xs : List ℕ) → is_wsp a ≡ false → is_fold a b c ≡ true → lws_len (a ∷ b ∷ c ∷ xs) ≡ suc (suc (suc (lws_len xs)))
unfolding lws_len
fold_len a b c xs no_wsp h = rw (no_wsp, h) (omega arith)

fold_more : (a b c : ℕ) (xs : List ℕ) → is_wsp a ≡ false → is_fold a b c ≡ true → Blanks xs → Blanks (a ∷ b ∷ c ∷ xs)
fold_more a b c xs no_wsp h r =
    let f = fold_is a b c h in
    let is_cr = f.0 in
    let is_lf = f.1 in
    let n = fold_len a b c xs no_wsp h in
    elim (wsp_is c f.2) [
      | inl e ↦ record { blanks = FoldSpace ∷ r.blanks; whole = rw (n, is_cr, is_lf, e) (ap (λ (ys : List ℕ). 13 ∷ 10 ∷ 32 ∷ ys) r.whole); len = n ∙ ap (λ k. suc (suc (suc k))) r.len; none = rw n r.none }
      | inr e ↦ record { blanks = FoldTab ∷ r.blanks; whole = rw (n, is_cr, is_lf, e) (ap (λ (ys : List ℕ). 13 ∷ 10 ∷ 9 ∷ ys) r.whole); len = n ∙ ap (λ k. suc (suc (suc k))) r.len; none = rw n r.none }
    ]

blanks_of : (xs : List ℕ) → Blanks xs
unfolding blank_len
blanks_of [] = no_blanks [] refl
blanks_of (a ∷ []) = elim (cases_Bool (is_wsp a)) [ inl t ↦ one_more a [] t (blanks_of []) | inr f ↦ no_blanks (a ∷ []) (rw f refl) ]
blanks_of (a ∷ b ∷ []) = elim (cases_Bool (is_wsp a)) [ inl t ↦ one_more a (b ∷ []) t (blanks_of (b ∷ [])) | inr f ↦ no_blanks (a ∷ b ∷ []) (rw f refl) ]
blanks_of (a ∷ b ∷ c ∷ xs) = elim (cases_Bool (is_wsp a)) [
  | inl t ↦ one_more a (b ∷ c ∷ xs) t (blanks_of (b ∷ c ∷ xs))
  | inr f ↦ elim (cases_Bool (is_fold a b c)) [ inl t ↦ fold_more a b c xs f t (blanks_of xs) | inr g ↦ no_blanks (a ∷ b ∷ c ∷ xs) (rw (f, g) refl) ]
]

pub lws_takes : (text : List ℕ) (i : ℕ) → (bs : List Blank) × Takes text i (lws_end text i) (lws bs) × (blank_len (drop (lws_end text i) text) ≡ 0)
unfolding lws_end
lws_takes text i = let r = blanks_of (drop i text) in (r.blanks, takes text i _ _ r.whole r.len, subst (λ (xs : List ℕ). blank_len xs ≡ 0) (drop-drop _ i text) r.none)

at_place : (text : List ℕ) (i m : ℕ) → slice_get text i ≡ Some m → Takes text i (i + 1) (m ∷ [])
at_place text i m h =
    let lt = slice_get_within text i m h in
    let d = drop_more text i 0 lt in
    let g = get_or_from_slice_get text i m 0 h in
    record { whole = d ∙ ap (λ (b : ℕ). b ∷ drop (i + 1) text) g; end = refl }

-- what skip leaves behind: no more LWS in a field
abbrev pub Settled : Surroundings → List ℕ → Type 0
Settled Field rest = blank_len rest ≡ 0
Settled Uri rest = Unit {0}

nothing : (text : List ℕ) (i : ℕ) → Takes text i i []
nothing text i = record { whole = refl; end = omega arith }

skip_takes : (surroundings : Surroundings) (text : List ℕ) (i : ℕ) → (bs : List Blank) × Takes text i (skip surroundings text i) (lws bs) × IsSpacing surroundings bs × Settled surroundings (drop (skip surroundings text i) text)
skip_takes Field text i = let r = lws_takes text i in (r.0, r.1, tt, r.2)
skip_takes Uri text i = ([], nothing text i, refl, tt)

pub record TakenSeparator (surroundings : Surroundings) (byte : ℕ) (text : List ℕ) (i : ℕ) (m : Separator) : Type 0 where
  pub tree : SeparatorTree
  pub takes : Takes text i m.end (separator byte tree)
  pub is : IsSeparator surroundings tree
  pub place : m ≡ separator_place i byte tree
  pub settled : Settled surroundings (drop m.end text)

pub separator_takes : (surroundings : Surroundings) (byte : ℕ) (text : List ℕ) (i : ℕ) (m : Separator) → separator_at surroundings byte text i ≡ Some m → TakenSeparator surroundings byte text i m
unfolding separator_at
separator_takes surroundings byte text i m h =
    let c = cond_some (stands byte text (skip surroundings text i)) _ m h in
    let one = skip_takes surroundings text i in
    let two = skip_takes surroundings text (skip surroundings text i + 1) in
    let tree : SeparatorTree = record { before = one.0; after = two.0 } in
    let all : Takes text i (skip surroundings text (skip surroundings text i + 1)) (separator byte tree) = then one.1 (then (at_place text (skip surroundings text i) byte (stands_is byte text (skip surroundings text i) c.0)) two.1) in
    subst (TakenSeparator surroundings byte text i) c.1 record {
      tree = tree;
      takes = all;
      is = record { before = one.2; after = two.2 };
      place = placed (skip surroundings text i) (skip surroundings text (skip surroundings text i + 1)) tree one.1.end all.end;
      settled = two.3;
    }
  where
    placed : (place end : ℕ) (tree : SeparatorTree) → place ≡ i + length (lws tree.before) → end ≡ i + length (separator byte tree) → let n : Separator = record { place = place; end = end } in n ≡ separator_place i byte tree
    placed place end tree a b = ap (λ (k : ℕ). let n : Separator = record { place = k; end = end } in n) a ∙ ap (λ (k : ℕ). let n : Separator = record { place = i + length (lws tree.before); end = k } in n) b

record Passing (p : ℕ → Bool) (xs : List ℕ) : Type 0 where
  w : List ℕ
  whole : xs ≡ w ++ drop (prefix_len p xs) xs
  len : prefix_len p xs ≡ length w
  all : AllByRecursion (λ b. p b ≡ true) w

passing : (p : ℕ → Bool) (xs : List ℕ) → Passing p xs
passing p [] = record { w = []; whole = refl; len = refl; all = tt }
passing p (b ∷ xs) = let r = passing p xs in elim (cases_Bool (p b)) [
  | inl t ↦ let n : prefix_len p (b ∷ xs) ≡ suc (prefix_len p xs) = rw t (omega arith) in
      record { w = b ∷ r.w; whole = rw n (ap (λ (ys : List ℕ). b ∷ ys) r.whole); len = n ∙ ap (λ k. suc k) r.len; all = (t, r.all) }
  | inr f ↦ record { w = []; whole = rw f refl; len = rw f refl; all = tt }
]

pub run_takes : (class : Class) (text : List ℕ) (i : ℕ) → (w : List ℕ) × Takes text i (run_end class text i) w × AllByRecursion (λ b. has class b ≡ true) w
unfolding run_end
run_takes class text i = let r = passing (has class) (drop i text) in (r.w, takes text i _ r.w r.whole r.len, r.all)

pub word_takes : (class : Class) (text : List ℕ) (i j : ℕ) → word_end class text i ≡ Some j → (w : List ℕ) × Takes text i j w × IsWord class w
unfolding run_end
word_takes class text i j h =
    let e = word_is class text i j h in
    let r = passing (has class) (drop i text) in
    let t = takes text i _ r.w r.whole r.len in
    (r.w, subst (λ k. Takes text i k r.w) (sym e.0) t, record { some = omega (arith, e.0, e.1, r.len); all = r.all })

record Closing (xs : List ℕ) (n : ℕ) : Type 0 where
  q : List Quotable
  whole : xs ≡ (flat_map quotable q ++ 34 ∷ []) ++ drop n xs
  len : n ≡ length (flat_map quotable q ++ 34 ∷ [])
  all : AllByRecursion IsQuotable q

map_some : (k : ℕ) (o : Option ℕ) (n : ℕ) → option_map (λ m. k + m) o ≡ Some n → (m : ℕ) × (o ≡ Some m) × (n ≡ k + m)
map_some k None n h = absurd (cc)
map_some k (Some m) n h = (m, refl, sym (same_Some _ _ h))

plain_more : (b : ℕ) (xs : List ℕ) (n m : ℕ) → b ≢ 34 → b ≢ 92 → n ≡ 1 + m → Closing xs m → Closing (b ∷ xs) n
plain_more b xs n m no_quote no_slash e r =
    let k : n ≡ suc m = omega arith in
    record { q = Plain b ∷ r.q; whole = rw k (ap (λ (ys : List ℕ). b ∷ ys) r.whole); len = k ∙ ap (λ i. suc i) r.len; all = ((no_quote, no_slash), r.all) }

pair_more : (c : ℕ) (xs : List ℕ) (n m : ℕ) → n ≡ 2 + m → Closing xs m → Closing (92 ∷ c ∷ xs) n
pair_more c xs n m e r =
    let k : n ≡ suc (suc m) = omega arith in
    record { q = Escaped c ∷ r.q; whole = rw k (ap (λ (ys : List ℕ). 92 ∷ c ∷ ys) r.whole); len = k ∙ ap (λ i. suc (suc i)) r.len; all = (tt, r.all) }

quote_done : (xs : List ℕ) (n : ℕ) → quoted_len (34 ∷ xs) ≡ Some n → Closing (34 ∷ xs) n
quote_done xs n h =
    let k : n ≡ 1 = same_Some n 1 (sym h ∙ closes xs) in
    record { q = []; whole = rw k refl; len = k; all = tt }

closing : (xs : List ℕ) (n : ℕ) → quoted_len xs ≡ Some n → Closing xs n
unfolding quoted_len
closing [] n h = absurd (cc)
closing (b ∷ []) n h = elim (cases_eq b 34) [
  | inl e ↦ subst (λ (m : ℕ). Closing (m ∷ []) n) (sym e) (quote_done [] n (let P : ℕ → Type 0 = λ m. quoted_len (m ∷ []) ≡ Some n in subst P e h))
  | inr ne ↦ absurd (none-some n (rw (ne_eqb b 34 ne) at h))
]
closing (b ∷ c ∷ rest) n h = elim (cases_eq b 34) [
  | inl e ↦ subst (λ (m : ℕ). Closing (m ∷ c ∷ rest) n) (sym e) (quote_done (c ∷ rest) n (let P : ℕ → Type 0 = λ m. quoted_len (m ∷ c ∷ rest) ≡ Some n in subst P e h))
  | inr ne ↦ elim (cases_eq b 92) [
    | inl f ↦ let m = map_some 2 (quoted_len rest) n (rw (ne_eqb b 34 ne, eq-eqb b 92 f) at h) in subst (λ (k : ℕ). Closing (k ∷ c ∷ rest) n) (sym f) (pair_more c rest n m.0 m.2 (closing rest m.0 m.1))
    | inr nf ↦ let m = map_some 1 (quoted_len (c ∷ rest)) n (rw (ne_eqb b 34 ne, ne_eqb b 92 nf) at h) in plain_more b (c ∷ rest) n m.0 ne nf m.2 (closing (c ∷ rest) m.0 m.1)
  ]
]

pub quote_takes : (text : List ℕ) (i j : ℕ) → quoted_end text i ≡ Some j → (q : List Quotable) × Takes text i j (flat_map quotable q ++ 34 ∷ []) × AllByRecursion IsQuotable q
unfolding quoted_end
quote_takes text i j h =
    let m = map_some i (quoted_len (drop i text)) j h in
    let r = closing (drop i text) m.0 m.1 in
    (r.q, subst (λ k. Takes text i k (flat_map quotable r.q ++ 34 ∷ [])) (sym m.2) (takes text i m.0 (flat_map quotable r.q ++ 34 ∷ []) r.whole r.len), r.all)

pub stands_takes : (byte : ℕ) (text : List ℕ) (i : ℕ) → stands byte text i ≡ true → Takes text i (i + 1) (byte ∷ [])
stands_takes byte text i h = at_place text i byte (stands_is byte text i h)

value_takes : (surroundings : Surroundings) (text : List ℕ) (i j : ℕ) → value_end surroundings text i ≡ Some j → (v : ValueTree) × Takes text i j (value v) × IsValue surroundings v
unfolding value_end
value_takes surroundings text i j h = elim (cases_Bool (stands 34 text i)) [
  | inl t ↦ let q = quote_takes text (i + 1) j (rw t at h) in (Quoted q.0, then (stands_takes 34 text i t) q.1, q.2)
  | inr f ↦ let w = word_takes (value_class surroundings) text i j (rw f at h) in (Bare w.0, w.1, w.2)
]

record TakenParam (surroundings : Surroundings) (text : List ℕ) (m : Separator) (p : Param) : Type 0 where
  name : List ℕ
  value : Option ValueTree
  takes : Takes text m.end p.whole.to (name ++ assigned value)
  word : IsWord Token name
  is : IfSome value (IsValue surroundings)
  place : let q : Param = record { whole = span m.place ((m.end + length name) + length (assigned value)); name = span m.end (m.end + length name); value = value_place (m.end + length name) value } in p ≡ q

param_takes : (surroundings : Surroundings) (text : List ℕ) (m : Separator) (p : Param) → param_at surroundings text m ≡ Some p → TakenParam surroundings text m p
unfolding param_at
param_takes surroundings text m p h =
    let e = bind_some (word_end Token text m.end) _ p h in
    let name = word_takes Token text m.end e.0 e.1 in
    elim (cases_Bool (stands 61 text e.0)) [
      | inl t ↦
          let v = bind_some (value_end surroundings text (e.0 + 1)) _ p (rw t at e.2) in
          let val = value_takes surroundings text (e.0 + 1) v.0 v.1 in
          let same = same_Some _ _ v.2 in
          let end = ap (λ (q : Param). q.whole.to) same in
          let all = then name.1 (then (stands_takes 61 text e.0 t) val.1) in
          record {
            name = name.0;
            value = Some val.0;
            takes = subst (λ k. Takes text m.end k (name.0 ++ (61 ∷ value val.0))) end all;
            word = name.2;
            is = val.2;
            place = sym same ∙ placed m.place m.end e.0 v.0 name.0 val.0 name.1.end val.1.end;
          }
      | inr f ↦
          let same = same_Some _ _ (rw f at e.2) in
          let end = ap (λ (q : Param). q.whole.to) same in
          let all = subst (λ w. Takes text m.end e.0 w) (sym (append-nil name.0)) name.1 in
          record {
            name = name.0;
            value = None;
            takes = subst (λ k. Takes text m.end k (name.0 ++ [])) end all;
            word = name.2;
            is = tt;
            place = sym same ∙ bare m.place m.end e.0 name.0 name.1.end;
          }
    ]
  where
    placed : (s i e v : ℕ) (name : List ℕ) (val : ValueTree) → e ≡ i + length name → v ≡ (e + 1) + length (value val) → let p : Param = record { whole = span s v; name = span i e; value = Some (span (e + 1) v) } in let q : Param = record { whole = span s ((i + length name) + length (assigned (Some val))); name = span i (i + length name); value = value_place (i + length name) (Some val) } in p ≡ q
    placed s i e v name val a b =
        let end : v ≡ (i + length name) + suc (length (value val)) = omega arith in
        let to : v ≡ ((i + length name) + 1) + length (value val) = omega arith in
        ap (λ (k : ℕ). let q : Param = record { whole = span s k; name = span i e; value = Some (span (e + 1) v) } in q) end
        ∙ ap (λ (k : ℕ). let q : Param = record { whole = span s ((i + length name) + suc (length (value val))); name = span i e; value = Some (span (e + 1) k) } in q) to
        ∙ ap (λ (k : ℕ). let q : Param = record { whole = span s ((i + length name) + suc (length (value val))); name = span i k; value = Some (span (k + 1) (((i + length name) + 1) + length (value val))) } in q) a

    bare : (s i e : ℕ) (name : List ℕ) → e ≡ i + length name → let p : Param = record { whole = span s e; name = span i e; value = None } in let q : Param = record { whole = span s ((i + length name) + length (assigned None)); name = span i (i + length name); value = value_place (i + length name) None } in p ≡ q
    bare s i e name a =
        let end : e ≡ (i + length name) + 0 = omega arith in
        ap (λ (k : ℕ). let q : Param = record { whole = span s k; name = span i e; value = None } in q) end
        ∙ ap (λ (k : ℕ). let q : Param = record { whole = span s ((i + length name) + 0); name = span i k; value = None } in q) a

pub record TakenParams (surroundings : Surroundings) (text : List ℕ) (i : ℕ) (ps : List Param) (j : ℕ) : Type 0 where
  pub trees : List ParamTree
  pub takes : Takes text i j (params trees)
  pub are : AllByRecursion (IsParam surroundings) trees
  pub places : ps ≡ param_places i trees
  pub none : separator_at surroundings 59 text j ≡ None

repeat_takes : (surroundings : Surroundings) (text : List ℕ) (i : ℕ) (ps : List Param) (j : ℕ) → Repeats (next_param surroundings text) i ps j → TakenParams surroundings text i ps j
repeat_takes surroundings text i [] j h =
    let P : ℕ → Type 0 = λ n. separator_at surroundings 59 text n ≡ None in
    let end : i ≡ j = h.1 in
    record { trees = []; takes = record { whole = ap (λ n. drop n text) end; end = omega arith }; are = tt; places = refl; none = subst P end (done_is surroundings text i h.0) }
repeat_takes surroundings text i (p ∷ ps) j h =
    let is = item_is surroundings text i h.0 p h.1 in
    let m = separator_takes surroundings 59 text i is.0 is.1 in
    let t = param_takes surroundings text is.0 p is.2 in
    let tree : ParamTree = record { semicolon = m.tree; name = t.name; value = t.value } in
    let one : Takes text i h.0 (param tree) = subst (λ k. Takes text i k (param tree)) (sym is.3) (then m.takes t.takes) in
    let rest = repeat_takes surroundings text h.0 ps j h.2 in
    let place : p ≡ param_place i tree = t.place ∙ ap (λ (n : Separator). let q : Param = record { whole = span n.place ((n.end + length t.name) + length (assigned t.value)); name = span n.end (n.end + length t.name); value = value_place (n.end + length t.name) t.value } in q) m.place in
    record {
      trees = tree ∷ rest.trees;
      takes = then one rest.takes;
      are = (record { semicolon = m.is; name = t.word; value = t.is }, rest.are);
      places = ap (λ (x : Param). x ∷ ps) place ∙ ap (λ (xs : List Param). param_place i tree ∷ xs) (rest.places ∙ ap (λ k. param_places k rest.trees) one.end);
      none = rest.none;
    }

pub params_takes : (surroundings : Surroundings) (text : List ℕ) (i : ℕ) (r : List Param × ℕ) → params_at surroundings text i ≡ Some r → TakenParams surroundings text i r.0 r.1
unfolding params_at
params_takes surroundings text i r h = repeat_takes surroundings text i r.0 r.1 (many_repeats (length text) (next_param surroundings text) i r h)

-- the part that was taken
pub part_taken : (text : List ℕ) (i j : ℕ) (w : List ℕ) → Takes text i j w → slice_range text i j ≡ w
part_taken text i j w t = let P : ℕ → Type 0 = λ k. slice_range text i k ≡ w in subst P (sym t.end) (part_is text i w (drop j text) t.whole)

pub not_none : {A : Type 0} (b : Bool) (x y : A) → cond b None (Some x) ≡ Some y → (b ≡ false) × (x ≡ y)
not_none true x y h = absurd (none-some y h)
not_none false x y h = (refl, same_Some x y h)

pub number_takes : (most : ℕ) (text : List ℕ) (i : ℕ) (r : ℕ × ℕ) → number_at most text i ≡ Some r → (w : List ℕ) × Takes text i r.1 w × IsWord Digit w × (length w ≤ most) × (r.0 ≡ digits_value 10 w)
unfolding number_at
number_takes most text i r h =
    let e = bind_some (word_end Digit text i) _ r h in
    let w = word_takes Digit text i e.0 e.1 in
    let n = not_none (nat_lt most (e.0 - i)) _ r e.2 in
    let few = ltb-false most (e.0 - i) n.0 in
    let end : e.0 ≡ r.1 = ap (λ (x : ℕ × ℕ). x.1) n.1 in
    let number = ap (λ (x : ℕ × ℕ). x.0) n.1 in
    let part = part_taken text i e.0 w.0 w.1 in
    (w.0, subst (λ k. Takes text i k w.0) end w.1, w.2, omega (arith, w.1.end, few), sym number ∙ ap (λ ds. digits_value 10 ds) part)

pub gap_takes : (text : List ℕ) (i j : ℕ) → gap_end text i ≡ Some j → (bs : List Blank) × Takes text i j (lws bs) × (0 < length bs)
unfolding gap_end
gap_takes text i j h =
    let c = cond_some (nat_lt i (lws_end text i)) _ j h in
    let r = lws_takes text i in
    let some = ltb-true i (lws_end text i) c.0 in
    (r.0, subst (λ k. Takes text i k (lws r.0)) c.1 r.1, not_empty r.0 (omega (arith, r.1.end, some)))
  where
    not_empty : (bs : List Blank) → 0 < length (lws bs) → 0 < length bs
    not_empty [] k = absurd (omega arith)
    not_empty (b ∷ bs) k = omega arith

pub word_at_takes : (word text : List ℕ) (i j : ℕ) → word_at word text i ≡ Some j → (w : List ℕ) × Takes text i j w × (str_eq_ignore_ascii_case w word ≡ true)
unfolding word_at
word_at_takes word text i j h =
    let c = cond_some (str_eq_ignore_ascii_case (slice_range text i (i + length word)) word) (i + length word) j h in
    let w = slice_range text i (i + length word) in
    let len = same_length w word c.0 in
    let n : (i + length word) - i ≡ length word = omega arith in
    let cut : drop i text ≡ w ++ drop (length word) (drop i text) = sym (ap (λ k. take k (drop i text) ++ drop (length word) (drop i text)) n ∙ take-append-drop (length word) (drop i text)) in
    (w, subst (λ k. Takes text i k w) c.1 (takes text i (length word) w cut (sym len)), c.0)
