-- The turns of the loops over continuation lines and over fields.
use Rattle.std.proofs.Common.{◌≡◌, ℕ, ◌+◌, ◌<◌, ◌≤◌, Bool, true, false, cond, List, [], ◌∷◌, length, refl, ap, inl, inr, arith, Option, Some, None}
use Rattle.std.proofs.lemmas.List.{drop_all}
use Rattle.std.proofs.lemmas.Bool.{cases_Bool, cases_lt}
use Rattle.std.proofs.lemmas.Option.{same_Some, none-some, cond_some, slice_get_within}
use Rattle.sip_words.specs.declared.bytes.Class.TheVariants.{Token}
use Rattle.sip_words.specs.Words.{run_end, word_end, stands}
use Rattle.sip_words.specs.Many.{Item, Done, Wrong, Advances, Repeats, many}
use Rattle.sip_words.proofs.Steps.{bind_some, stands_is}
use Rattle.sip_words.proofs.Digits.{word_is}
use Rattle.sip_words.proofs.ManyLaws.{many_repeats}
use Rattle.sip_scan.specs.declared.field.HeaderSpan.{HeaderSpan}
use Rattle.sip_scan.specs.Lines.{plain_end, wsp_end, is_crlf, line_end, continues, line_item, next_line, lines_at, folded_end}
use Rattle.sip_scan.specs.Field.{field_at, field_item, next_field}

pub line_next : (text : List ℕ) (i e : ℕ) → continues text i ≡ true → line_end text i ≡ Some e → next_line text i ≡ Item e (e + 2)
unfolding next_line
line_next text i e goes h = rw (goes, h) refl

pub line_wrong : (text : List ℕ) (i : ℕ) → continues text i ≡ true → line_end text i ≡ None → next_line text i ≡ Wrong
unfolding next_line
line_wrong text i goes h = rw (goes, h) refl

pub line_done : (text : List ℕ) (i : ℕ) → continues text i ≡ false → next_line text i ≡ Done
unfolding next_line
line_done text i stops = rw stops refl

-- a line ends within the text, at a CRLF
pub line_is : (text : List ℕ) (i e : ℕ) → line_end text i ≡ Some e → (plain_end text i ≡ e) × (is_crlf text e ≡ true)
unfolding line_end
line_is text i e h = let c = cond_some (is_crlf text (plain_end text i)) _ e h in let same = same_Some _ _ (ap (λ (n : ℕ). Some n) c.1) in (c.1, rw c.1 at c.0)

plain_past : (text : List ℕ) (i : ℕ) → i ≤ plain_end text i
unfolding plain_end
plain_past text i = omega arith

crlf_inside : (text : List ℕ) (i : ℕ) → is_crlf text i ≡ true → i < length text
unfolding is_crlf
crlf_inside text i h = elim (cases_Bool (stands 13 text i)) [ inl t ↦ slice_get_within text i 13 (stands_is 13 text i t) | inr f ↦ absurd (grind arith) ]

pub line_past : (text : List ℕ) (i e : ℕ) → line_end text i ≡ Some e → (i ≤ e) × (e < length text)
line_past text i e h = let is = line_is text i e h in let past = plain_past text i in (omega (arith, is.0), crlf_inside text e is.1)

pub lines_advance : (text : List ℕ) → Advances (length text) (next_line text)
unfolding next_line
lines_advance text = λ i j x h. by_test i j x (continues text i) h
  where
    by_line : (i j x : ℕ) (o : Option ℕ) → line_end text i ≡ o → line_item o ≡ Item x j → (i < j) × (i < length text)
    by_line i j x None e h = absurd (cc)
    by_line i j x (Some end) e h = let to : end + 2 ≡ j = cc in let past = line_past text i end e in (omega (arith, past), omega (arith, past))

    by_test : (i j x : ℕ) (b : Bool) → cond b (line_item (line_end text i)) Done ≡ Item x j → (i < j) × (i < length text)
    by_test i j x false h = absurd (cc)
    by_test i j x true h = by_line i j x (line_end text i) refl h

-- lines go on behind their place
repeats_past : (text : List ℕ) (i j : ℕ) (ends : List ℕ) → Repeats (next_line text) i ends j → i ≤ j
repeats_past text i j [] h = omega (arith, h.1)
repeats_past text i j (e ∷ ends) h = let past = lines_advance text i h.0 e h.1 in let rest = repeats_past text h.0 j ends h.2 in omega (arith, past)

pub folded_past : (text : List ℕ) (i j : ℕ) → folded_end text i ≡ Some j → i + 2 ≤ j
unfolding folded_end lines_at
folded_past text i j h =
    let line = bind_some (line_end text i) _ j h in
    let lines = bind_some (many (length text) (next_line text) (line.0 + 2)) _ j line.2 in
    let past = line_past text i line.0 line.1 in
    let rest = repeats_past text (line.0 + 2) lines.0.1 lines.0.0 (many_repeats (length text) (next_line text) (line.0 + 2) lines.0 lines.1) in
    let end = same_Some lines.0.1 j lines.2 in
    omega (arith, past, rest, end)

pub field_next : (text : List ℕ) (i : ℕ) (f : HeaderSpan) → is_crlf text i ≡ false → field_at text i ≡ Some f → next_field text i ≡ Item f f.whole.to
unfolding next_field
field_next text i f not_crlf h = rw (not_crlf, h) refl

pub field_wrong : (text : List ℕ) (i : ℕ) → is_crlf text i ≡ false → field_at text i ≡ None → next_field text i ≡ Wrong
unfolding next_field
field_wrong text i not_crlf h = rw (not_crlf, h) refl

pub field_done : (text : List ℕ) (i : ℕ) → is_crlf text i ≡ true → next_field text i ≡ Done
unfolding next_field
field_done text i at_crlf = rw at_crlf refl

wsp_past : (text : List ℕ) (i : ℕ) → i ≤ wsp_end text i
unfolding wsp_end
wsp_past text i = omega arith

word_inside : (text : List ℕ) (i : ℕ) → i < run_end Token text i → i < length text
unfolding run_end
word_inside text i h = elim (cases_lt i (length text)) [ inl lt ↦ lt | inr le ↦ let e = drop_all i text le in absurd (omega (arith, rw e at h)) ]

field_past : (text : List ℕ) (i : ℕ) (f : HeaderSpan) → field_at text i ≡ Some f → (i < f.whole.to) × (i < length text)
unfolding field_at
field_past text i f h =
    let name = bind_some (word_end Token text i) _ f h in
    let w = word_is Token text i name.0 name.1 in
    elim (cases_Bool (stands 58 text (wsp_end text name.0))) [
      | inl t ↦
          let e = bind_some (folded_end text (wsp_end text name.0 + 1)) _ f (rw t at name.2) in
          let to = ap (λ (g : HeaderSpan). g.whole.to) (same_Some _ _ e.2) in
          let past = folded_past text (wsp_end text name.0 + 1) e.0 e.1 in
          let skip = wsp_past text name.0 in
          (omega (arith, w), word_inside text i (omega (arith, w)))
      | inr g ↦ absurd (none-some f (rw g at name.2))
    ]

pub fields_advance : (text : List ℕ) → Advances (length text) (next_field text)
unfolding next_field
fields_advance text = λ i j x h. by_test i j x (is_crlf text i) h
  where
    by_field : (i j : ℕ) (x : HeaderSpan) (o : Option HeaderSpan) → field_at text i ≡ o → field_item o ≡ Item x j → (i < j) × (i < length text)
    by_field i j x None e h = absurd (cc)
    by_field i j x (Some f) e h = let to : f.whole.to ≡ j = cc in let past = field_past text i f e in (omega (arith, past), past.1)

    by_test : (i j : ℕ) (x : HeaderSpan) (b : Bool) → cond b Done (field_item (field_at text i)) ≡ Item x j → (i < j) × (i < length text)
    by_test i j x true h = absurd (cc)
    by_test i j x false h = by_field i j x (field_at text i) refl h
