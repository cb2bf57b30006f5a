-- One step of each run.
use Rattle.std.proofs.Common.{◌≡◌, ◌≢◌, ℕ, ◌+◌, ◌-◌, ◌<◌, ◌≤◌, true, false, List, [], ◌∷◌, length, take, drop, get_or, ◌==◌, refl, sym, ap, ◌∙◌, inl, inr, arith, Option, Some, None, option_map}
use Rattle.std.proofs.lemmas.List.{drop_more, drop_all, drop-drop, take_rest}
use Rattle.std.proofs.lemmas.Bool.{cases_Bool, ne_eqb}
use Rattle.sip_words.specs.declared.bytes.Class.{Class}
use Rattle.sip_words.specs.Bytes.{has, is_wsp}
use Rattle.sip_words.specs.Words.{run_end, blank_len, lws_len, lws_end, is_fold, quoted_len, quoted_end}

pub run_stops : (class : Class) (text : List ℕ) (i : ℕ) → i < length text → has class (get_or text i 0) ≡ false → run_end class text i ≡ i
unfolding run_end
run_stops class text i lt h = let e = drop_more text i 0 lt in rw (e, h) (omega arith)

pub run_goes : (class : Class) (text : List ℕ) (i : ℕ) → i < length text → has class (get_or text i 0) ≡ true → run_end class text (i + 1) ≡ run_end class text i
unfolding run_end
run_goes class text i lt h = let e = drop_more text i 0 lt in rw (e, h) (omega arith)

pub run_all : (class : Class) (text : List ℕ) (i : ℕ) → length text ≤ i → run_end class text i ≡ i
unfolding run_end
run_all class text i le = rw (drop_all i text le) (omega arith)

is_more : (xs : List ℕ) → lws_len xs ≡ blank_len xs + lws_len (drop (blank_len xs) xs)
unfolding lws_len blank_len
is_more [] = refl
is_more (a ∷ []) = elim (cases_Bool (is_wsp a)) [ inl h ↦ simp h | inr h ↦ simp h ]
is_more (a ∷ b ∷ []) = elim (cases_Bool (is_wsp a)) [ inl h ↦ simp h | inr h ↦ simp h ]
is_more (a ∷ b ∷ c ∷ rest) = elim (cases_Bool (is_wsp a)) [ inl h ↦ simp h | inr h ↦ elim (cases_Bool (is_fold a b c)) [ inl k ↦ simp (h, k) | inr k ↦ simp (h, k) ] ]

pub is_none : (xs : List ℕ) → blank_len xs ≡ 0 → lws_len xs ≡ 0
unfolding lws_len blank_len
is_none [] h = refl
is_none (a ∷ []) h = h
is_none (a ∷ b ∷ []) h = elim (cases_Bool (is_wsp a)) [ inl e ↦ absurd (omega (arith, rw e at h)) | inr e ↦ simp e ]
is_none (a ∷ b ∷ c ∷ rest) h = elim (cases_Bool (is_wsp a)) [ inl e ↦ absurd (omega (arith, rw e at h)) | inr e ↦ elim (cases_Bool (is_fold a b c)) [ inl k ↦ absurd (omega (arith, rw (e, k) at h)) | inr k ↦ simp (e, k) ] ]

-- the code calls blank_len on &text[i..]
pub lws_goes : (text : List ℕ) (i n : ℕ) → n ≡ blank_len (take (length text - i) (drop i text)) → lws_end text (i + n) ≡ lws_end text i
unfolding lws_end
lws_goes text i n h =
    let e = is_more (drop i text) in
    let d = drop-drop n i text in
    let r = rw take_rest at h in
    rw (e, ← r, d) (omega arith)

pub lws_stops : (text : List ℕ) (i n : ℕ) → n ≡ blank_len (take (length text - i) (drop i text)) → n ≡ 0 → lws_end text i ≡ i
unfolding lws_end
lws_stops text i n h z = let r = rw take_rest at h in rw (is_none (drop i text) (sym r ∙ z)) (omega arith)

later : (i k : ℕ) (q : Option ℕ) → option_map (λ n. i + n) (option_map (λ n. k + n) q) ≡ option_map (λ n. (i + k) + n) q
later i k None = refl
later i k (Some n) = ap (λ (m : ℕ). Some m) (omega arith)

pub closes : (xs : List ℕ) → quoted_len (34 ∷ xs) ≡ Some 1
unfolding quoted_len
closes [] = refl
closes (c ∷ rest) = refl

pub escapes : (xs : List ℕ) → quoted_len (92 ∷ xs) ≡ option_map (λ n. 2 + n) (quoted_len (drop 1 xs))
unfolding quoted_len
escapes [] = refl
escapes (c ∷ rest) = refl

pub goes : (b : ℕ) (xs : List ℕ) → (b == 34) ≡ false → (b == 92) ≡ false → quoted_len (b ∷ xs) ≡ option_map (λ n. 1 + n) (quoted_len xs)
unfolding quoted_len
goes b [] h k = simp h
goes b (c ∷ rest) h k = simp (h, k)

pub quote_closes : (text : List ℕ) (i : ℕ) → i < length text → get_or text i 0 ≡ 34 → quoted_end text i ≡ Some (i + 1)
unfolding quoted_end
quote_closes text i lt h = let d = drop_more text i 0 lt in rw (d, h, closes (drop (i + 1) text)) refl

pub quote_escapes : (text : List ℕ) (i : ℕ) → i < length text → get_or text i 0 ≡ 92 → quoted_end text (i + 2) ≡ quoted_end text i
unfolding quoted_end
quote_escapes text i lt h =
    let d = drop_more text i 0 lt in
    let two : drop 1 (drop (i + 1) text) ≡ drop (i + 2) text = drop-drop 1 (i + 1) text ∙ ap (λ n. drop n text) (omega arith) in
    rw (d, h, escapes (drop (i + 1) text), two) (sym (later i 2 (quoted_len (drop (i + 2) text))))

pub quote_goes : (text : List ℕ) (i : ℕ) → i < length text → get_or text i 0 ≢ 34 → get_or text i 0 ≢ 92 → quoted_end text (i + 1) ≡ quoted_end text i
unfolding quoted_end
quote_goes text i lt h k =
    let d = drop_more text i 0 lt in
    rw (d, goes (get_or text i 0) (drop (i + 1) text) (ne_eqb _ _ h) (ne_eqb _ _ k)) (sym (later i 1 (quoted_len (drop (i + 1) text))))

pub quote_none : (text : List ℕ) (i : ℕ) → length text ≤ i → quoted_end text i ≡ None
unfolding quoted_end quoted_len
quote_none text i le = rw (drop_all i text le) refl
