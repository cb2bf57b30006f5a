-- A field that is read is spelled by the grammar.
use Rattle.std.proofs.Common.{◌≡◌, ℕ, suc, ◌+◌, Bool, true, false, cond, List, [], ◌∷◌, ◌++◌, length, drop, refl, sym, subst, ap, ◌∙◌, inl, inr, arith, Option, Some, None}
use Rattle.std.specs.List.{AllByRecursion, prefix_len}
use Rattle.std.proofs.lemmas.Bool.{cases_Bool, false≢true}
use Rattle.std.proofs.lemmas.Option.{same_Some, none-some}
use Rattle.sip_words.specs.declared.bytes.Class.TheVariants.{Token}
use Rattle.sip_words.specs.Bytes.{is_wsp}
use Rattle.sip_words.specs.Words.{word_end, stands}
use Rattle.sip_words.specs.Many.{Item, Done, Repeats, many}
use Rattle.sip_words.proofs.Steps.{bind_some, stands_is}
use Rattle.sip_words.proofs.Pieces.{at_front}
use Rattle.sip_words.proofs.Takes.{Takes, then, takes, word_takes, stands_takes}
use Rattle.sip_words.proofs.ManyLaws.{many_repeats}
use Rattle.sip_scan.specs.declared.field.HeaderSpan.{HeaderSpan}
use Rattle.sip_scan.specs.Lines.{is_plain, plain_end, wsp_end, is_crlf, line_end, continues, line_item, next_line, lines_at, folded_end}
use Rattle.sip_scan.specs.Field.{field_at, field_item, next_field}
use Rattle.sip_scan.specs.Grammar.{crlf, IsLine, IsContinuation, lines, FieldTree, field, IsFieldTree, fields}
use Rattle.sip_scan.proofs.Turns.{line_is}

-- the bytes in front that pass
pub record Passing (p : ℕ → Bool) (xs : List ℕ) : Type 0 where
  pub w : List ℕ
  pub whole : xs ≡ w ++ drop (prefix_len p xs) xs
  pub len : prefix_len p xs ≡ length w
  pub all : AllByRecursion (λ b. p b ≡ true) w

pub passing : (p : ℕ → Bool) (xs : List ℕ) → Passing p xs
passing p [] = record { w = []; whole = refl; len = refl; all = tt }
passing p (b ∷ xs) = let r = passing p xs in elim (cases_Bool (p b)) [
  | inl t ↦ let n : prefix_len p (b ∷ xs) ≡ suc (prefix_len p xs) = rw t (omega arith) in
      record { w = b ∷ r.w; whole = rw n (ap (λ (ys : List ℕ). b ∷ ys) r.whole); len = n ∙ ap (λ k. suc k) r.len; all = (t, r.all) }
  | inr f ↦ record { w = []; whole = rw f refl; len = rw f refl; all = tt }
]

pub crlf_takes : (text : List ℕ) (i : ℕ) → is_crlf text i ≡ true → Takes text i (i + 2) crlf
unfolding is_crlf
crlf_takes text i h =
    elim (cases_Bool (stands 13 text i)) [
      | inr f ↦ absurd (false≢true (rw f at h))
      | inl t ↦
          let lf : stands 10 text (i + 1) ≡ true = rw t at h in
          let both : Takes text i (i + 1 + 1) crlf = then (stands_takes 13 text i t) (stands_takes 10 text (i + 1) lf) in
          let n : i + 1 + 1 ≡ i + 2 = omega arith in
          subst (λ (j : ℕ). Takes text i j crlf) n both
    ]

pub line_takes : (text : List ℕ) (i e : ℕ) → line_end text i ≡ Some e → (w : List ℕ) × Takes text i e w × IsLine w × Takes text e (e + 2) crlf
unfolding plain_end
line_takes text i e h =
    let is = line_is text i e h in
    let r = passing is_plain (drop i text) in
    let run = takes text i (prefix_len is_plain (drop i text)) r.w r.whole r.len in
    (r.w, subst (λ (j : ℕ). Takes text i j r.w) is.0 run, r.all, crlf_takes text e is.1)

-- what a step over continuation lines found
line_step : (text : List ℕ) (i k e : ℕ) → next_line text i ≡ Item e k → (continues text i ≡ true) × (line_end text i ≡ Some e) × (k ≡ e + 2)
unfolding next_line
line_step text i k e h = by_test (continues text i) refl h
  where
    by_line : (o : Option ℕ) → line_end text i ≡ o → continues text i ≡ true → line_item o ≡ Item e k → (continues text i ≡ true) × (line_end text i ≡ Some e) × (k ≡ e + 2)
    by_line None l goes h = absurd (cc)
    by_line (Some end) l goes h = let same : end ≡ e = cc in let to : end + 2 ≡ k = cc in (goes, l ∙ ap (λ (n : ℕ). Some n) same, omega (arith, same, to))

    by_test : (b : Bool) → continues text i ≡ b → cond b (line_item (line_end text i)) Done ≡ Item e k → (continues text i ≡ true) × (line_end text i ≡ Some e) × (k ≡ e + 2)
    by_test false c h = absurd (cc)
    by_test true c h = by_line (line_end text i) refl c h

lines_done : (text : List ℕ) (i : ℕ) → next_line text i ≡ Done → continues text i ≡ false
unfolding next_line
lines_done text i h = by_test (continues text i) refl h
  where
    by_line : (o : Option ℕ) → line_item o ≡ Done → continues text i ≡ false
    by_line None h = absurd (cc)
    by_line (Some end) h = absurd (cc)

    by_test : (b : Bool) → continues text i ≡ b → cond b (line_item (line_end text i)) Done ≡ Done → continues text i ≡ false
    by_test false c h = c
    by_test true c h = by_line (line_end text i) h

-- what stands where a line continues
blank_at : (text : List ℕ) (i b : ℕ) (rest : List ℕ) → continues text i ≡ true → drop i text ≡ b ∷ rest → is_wsp b ≡ true
unfolding continues
blank_at text i b rest goes h =
    let front = at_front text i b rest h in
    elim (cases_Bool (stands 32 text i)) [
      | inl t ↦ let same = same_Some b 32 (sym front ∙ stands_is 32 text i t) in rw same refl
      | inr f ↦ let tab : stands 9 text i ≡ true = rw f at goes in let same = same_Some b 9 (sym front ∙ stands_is 9 text i tab) in rw same refl
    ]

is_continuation : (text : List ℕ) (i e : ℕ) (w : List ℕ) → continues text i ≡ true → Takes text i e w → IsLine w → Takes text e (e + 2) crlf → IsContinuation w
is_continuation text i e [] goes at line end =
    let h : drop i text ≡ 13 ∷ (10 ∷ drop (e + 2) text) = at.whole ∙ end.whole in
    let cr = blank_at text i 13 (10 ∷ drop (e + 2) text) goes h in
    false≢true cr
is_continuation text i e (b ∷ w) goes at line end = (blank_at text i b (w ++ drop e text) goes at.whole, line.1)

pub lines_takes : (text : List ℕ) (i : ℕ) (ends : List ℕ) (j : ℕ) → Repeats (next_line text) i ends j → (more : List (List ℕ)) × Takes text i j (lines more) × AllByRecursion IsContinuation more × (continues text j ≡ false)
lines_takes text i [] j h =
    let end : i ≡ j = h.1 in
    ([], record { whole = ap (λ n. drop n text) end; end = omega arith }, tt, subst (λ (n : ℕ). continues text n ≡ false) end (lines_done text i h.0))
lines_takes text i (e ∷ ends) j h =
    let step = line_step text i h.0 e h.1 in
    let line = line_takes text i e step.1 in
    let is = is_continuation text i e line.0 step.0 line.1 line.2 line.3 in
    let one : Takes text i h.0 (line.0 ++ crlf) = subst (λ (k : ℕ). Takes text i k (line.0 ++ crlf)) (sym step.2) (then line.1 line.3) in
    let rest = lines_takes text h.0 ends j h.2 in
    (line.0 ∷ rest.0, then one rest.1, (is, rest.2), rest.3)

pub folded_takes : (text : List ℕ) (i j : ℕ) → folded_end text i ≡ Some j → (first : List ℕ) × (more : List (List ℕ)) × Takes text i j (first ++ (crlf ++ lines more)) × IsLine first × AllByRecursion IsContinuation more × (continues text j ≡ false)
unfolding folded_end lines_at
folded_takes text i j h =
    let e = bind_some (line_end text i) _ j h in
    let r = bind_some (many (length text) (next_line text) (e.0 + 2)) _ j e.2 in
    let line = line_takes text i e.0 e.1 in
    let more = lines_takes text (e.0 + 2) r.0.0 r.0.1 (many_repeats (length text) (next_line text) (e.0 + 2) r.0 r.1) in
    let end = same_Some r.0.1 j r.2 in
    let all : Takes text i r.0.1 (line.0 ++ (crlf ++ lines more.0)) = then line.1 (then line.3 more.1) in
    (line.0, more.0, subst (λ (k : ℕ). Takes text i k (line.0 ++ (crlf ++ lines more.0))) end all, line.2, more.2, subst (λ (n : ℕ). continues text n ≡ false) end more.3)

gap_takes : (text : List ℕ) (i : ℕ) → (w : List ℕ) × Takes text i (wsp_end text i) w × AllByRecursion (λ b. is_wsp b ≡ true) w
unfolding wsp_end
gap_takes text i = let r = passing is_wsp (drop i text) in (r.w, takes text i (prefix_len is_wsp (drop i text)) r.w r.whole r.len, r.all)

pub field_takes : (text : List ℕ) (i : ℕ) (f : HeaderSpan) → field_at text i ≡ Some f → (t : FieldTree) × IsFieldTree t × Takes text i f.whole.to (field t)
unfolding field_at
field_takes text i f h =
    let e = bind_some (word_end Token text i) _ f h in
    let name = word_takes Token text i e.0 e.1 in
    let gap = gap_takes text e.0 in
    elim (cases_Bool (stands 58 text (wsp_end text e.0))) [
      | inr g ↦ absurd (none-some f (rw g at e.2))
      | inl colon ↦
          let r = bind_some (folded_end text (wsp_end text e.0 + 1)) _ f (rw colon at e.2) in
          let end = ap (λ (g : HeaderSpan). g.whole.to) (same_Some _ _ r.2) in
          let value = folded_takes text (wsp_end text e.0 + 1) r.0 r.1 in
          let t : FieldTree = record { name = name.0; gap = gap.0; first = value.0; more = value.1 } in
          let all : Takes text i r.0 (field t) = then name.1 (then gap.1 (then (stands_takes 58 text (wsp_end text e.0) colon) value.2)) in
          (t, record { name = name.2; gap = gap.2; first = value.3; more = value.4 }, subst (λ (k : ℕ). Takes text i k (field t)) end all)
    ]

-- what a step over fields found
field_step : (text : List ℕ) (i k : ℕ) (f : HeaderSpan) → next_field text i ≡ Item f k → (field_at text i ≡ Some f) × (k ≡ f.whole.to)
unfolding next_field
field_step text i k f h = by_test (is_crlf text i) h
  where
    by_field : (o : Option HeaderSpan) → field_at text i ≡ o → field_item o ≡ Item f k → (field_at text i ≡ Some f) × (k ≡ f.whole.to)
    by_field None e h = absurd (cc)
    by_field (Some g) e h = let same : g ≡ f = cc in let to : g.whole.to ≡ k = cc in (e ∙ ap (λ (x : HeaderSpan). Some x) same, sym to ∙ ap (λ (x : HeaderSpan). x.whole.to) same)

    by_test : (b : Bool) → cond b Done (field_item (field_at text i)) ≡ Item f k → (field_at text i ≡ Some f) × (k ≡ f.whole.to)
    by_test true h = absurd (cc)
    by_test false h = by_field (field_at text i) refl h

fields_done : (text : List ℕ) (i : ℕ) → next_field text i ≡ Done → is_crlf text i ≡ true
unfolding next_field
fields_done text i h = by_test (is_crlf text i) refl h
  where
    by_field : (o : Option HeaderSpan) → field_item o ≡ Done → is_crlf text i ≡ true
    by_field None h = absurd (cc)
    by_field (Some g) h = absurd (cc)

    by_test : (b : Bool) → is_crlf text i ≡ b → cond b Done (field_item (field_at text i)) ≡ Done → is_crlf text i ≡ true
    by_test true c h = c
    by_test false c h = by_field (field_at text i) h

pub fields_take : (text : List ℕ) (i : ℕ) (fs : List HeaderSpan) (j : ℕ) → Repeats (next_field text) i fs j → (ts : List FieldTree) × Takes text i j (fields ts) × AllByRecursion IsFieldTree ts × (is_crlf text j ≡ true)
fields_take text i [] j h =
    let end : i ≡ j = h.1 in
    ([], record { whole = ap (λ n. drop n text) end; end = omega arith }, tt, subst (λ (n : ℕ). is_crlf text n ≡ true) end (fields_done text i h.0))
fields_take text i (f ∷ fs) j h =
    let step = field_step text i h.0 f h.1 in
    let one = field_takes text i f step.0 in
    let here : Takes text i h.0 (field one.0) = subst (λ (k : ℕ). Takes text i k (field one.0)) (sym step.1) one.2 in
    let rest = fields_take text h.0 fs j h.2 in
    (one.0 ∷ rest.0, then here rest.1, (one.1, rest.2), rest.3)
