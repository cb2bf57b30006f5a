-- A head that is read is spelled by the grammar.
use Rattle.std.proofs.Common.{◌≡◌, ◌≢◌, ℕ, suc, ◌+◌, ◌<◌, ◌≤◌, true, List, [], ◌∷◌, ◌++◌, length, drop, refl, sym, subst, ap, ◌∙◌, inl, inr, arith, Option, Some, None, Result, Ok, Err, append_assoc}
use Rattle.std.specs.Prelude.{slice_range, ◌⊎◌}
use Rattle.std.specs.List.{AllByRecursion, prefix_len}
use Rattle.std.proofs.lemmas.Bool.{cases_lt, lt-ltb, le-ltb}
use Rattle.std.proofs.lemmas.Option.{same_Some}
use Rattle.sip_words.specs.declared.Span.{Span}
use Rattle.sip_words.specs.Many.{many}
use Rattle.sip_words.proofs.Steps.{bind_some}
use Rattle.sip_words.proofs.Takes.{Takes, then, takes, part_taken}
use Rattle.sip_words.proofs.ManyLaws.{many_repeats}
use Rattle.sip_scan.specs.declared.Head.{Head}
use Rattle.sip_scan.specs.declared.ScanFault.{ScanFault}
use Rattle.sip_scan.specs.declared.ScanFault.TheVariants.{NotSip, BadHeader, TooManyHeaders}
use Rattle.sip_scan.specs.Lines.{is_break, line_end, skipped, speaks_sip, start_line}
use Rattle.sip_scan.specs.Field.{next_field, fields_at}
use Rattle.sip_scan.specs.Head.{head_behind, at_most_128, counted, scanned_behind, scanned}
use Rattle.sip_scan.specs.Grammar.{crlf, FieldTree, field, fields, field_places, MessageTree, message, IsMessageTree, head_place}
use Rattle.sip_scan.proofs.Scanned.{start_is, start_ends}
use Rattle.sip_scan.proofs.FieldTakes.{passing, crlf_takes, line_takes, fields_take}
use Rattle.sip_scan.proofs.HeadAgain.{start_place, start_again, behind_again}

skip_takes : (text : List ℕ) → (w : List ℕ) × Takes text 0 (skipped text) w × AllByRecursion (λ b. is_break b ≡ true) w
unfolding skipped
skip_takes text =
    let r = passing is_break text in
    let n : 0 + prefix_len is_break text ≡ prefix_len is_break text = omega arith in
    (r.w, subst (λ (k : ℕ). Takes text 0 k r.w) n (takes text 0 (prefix_len is_break text) r.w r.whole r.len), r.all)

spelled : (skip start all body : List ℕ) → (skip ++ (start ++ (crlf ++ (all ++ crlf)))) ++ body ≡ skip ++ (start ++ (crlf ++ (all ++ (crlf ++ body))))
spelled skip start all body = simp append_assoc

pub head_takes : (text : List ℕ) (s : Span) (h : Head) → start_line text ≡ Some s → head_behind text s ≡ Some h → (t : MessageTree) × IsMessageTree t × (text ≡ message t) × (h ≡ head_place t)
unfolding head_behind fields_at
head_takes text s h start behind =
    let is = start_is text s start in
    let e = bind_some (line_end text s.from) _ h behind in
    let r = bind_some (many (length text) (next_field text) (e.0 + 2)) _ h e.2 in
    let skip = skip_takes text in
    let at_skip : Takes text 0 s.from skip.0 = subst (λ (k : ℕ). Takes text 0 k skip.0) (sym is.0) skip.1 in
    let line = line_takes text s.from e.0 e.1 in
    let all = fields_take text (e.0 + 2) r.0.0 r.0.1 (many_repeats (length text) (next_field text) (e.0 + 2) r.0 r.1) in
    let last = crlf_takes text r.0.1 all.3 in
    let t : MessageTree = record { skipped = skip.0; start = line.0; fields = all.0; body = drop (r.0.1 + 2) text } in
    let whole = then at_skip (then line.1 (then line.3 (then all.1 last))) in
    let text_is : text ≡ message t = whole.whole ∙ spelled skip.0 line.0 (fields all.0) (drop (r.0.1 + 2) text) in
    let to = start_ends text s e.0 start e.1 in
    let part = part_taken text s.from e.0 line.0 line.1 in
    let sip : speaks_sip line.0 ≡ true = sym (ap (λ (w : List ℕ). speaks_sip w) (sym (ap (λ (k : ℕ). slice_range text s.from k) to) ∙ part)) ∙ is.2 in
    let tree : IsMessageTree t = record { skipped = skip.2; start = line.2; sip = sip; fields = all.2 } in
    let same = same_Some s (start_place t) (sym start ∙ start_again text t tree text_is) in
    let place = same_Some h (head_place t) (sym behind ∙ ap (λ (x : Span). head_behind text x) same ∙ behind_again text t tree text_is) in
    (t, tree, text_is, place)

-- a head that is read, and one that has too many fields
abbrev pub Spelled : List ℕ → Head → Type 0
Spelled text h = (t : MessageTree) × IsMessageTree t × (text ≡ message t) × (h ≡ head_place t)

-- what was read is the head behind the start line
read_is : (text : List ℕ) (r : Result Head ScanFault) → scanned text ≡ r → r ≢ Err NotSip → r ≢ Err BadHeader → (h : Head) × Spelled text h × (at_most_128 h ≡ r)
unfolding scanned
read_is text r e sip good = by_start (start_line text) refl e
  where
    by_behind : (s : Span) (o : Option Head) → start_line text ≡ Some s → head_behind text s ≡ o → counted o ≡ r → (h : Head) × Spelled text h × (at_most_128 h ≡ r)
    by_behind s None start behind k = absurd (good (sym k))
    by_behind s (Some h) start behind k = (h, head_takes text s h start behind, k)

    by_start : (o : Option Span) → start_line text ≡ o → scanned_behind text o ≡ r → (h : Head) × Spelled text h × (at_most_128 h ≡ r)
    by_start None start k = absurd (sip (sym k))
    by_start (Some s) start k = by_behind s (head_behind text s) start refl k

err_ok : (h : Head) (f : ScanFault) (r : Result Head ScanFault) → r ≡ Err f → r ≡ Ok h → ⊥
err_ok h f r a b = cc

same_ok : (g h : Head) (r : Result Head ScanFault) → r ≡ Ok g → r ≡ Ok h → g ≡ h
same_ok g h r a b = cc

few_or_many : (h : Head) → ((length h.fields.items ≤ 128) × (at_most_128 h ≡ Ok h)) ⊎ ((128 < length h.fields.items) × (at_most_128 h ≡ Err TooManyHeaders))
few_or_many h = elim (cases_lt 128 (length h.fields.items)) [
  | inl more ↦ let t = lt-ltb 128 (length h.fields.items) more in inr (more, rw t refl)
  | inr few ↦ let f = le-ltb 128 (length h.fields.items) few in inl (few, rw f refl)
]

pub found_head : (text : List ℕ) (h : Head) → scanned text ≡ Ok h → Spelled text h
found_head text h e =
    let read = read_is text (Ok h) e (λ k. err_ok h NotSip (Ok h) k refl) (λ k. err_ok h BadHeader (Ok h) k refl) in
    elim (few_or_many read.0) [
      | inl few ↦ subst (Spelled text) (same_ok read.0 h (at_most_128 read.0) few.1 read.2) read.1
      | inr more ↦ absurd (err_ok h TooManyHeaders (at_most_128 read.0) more.1 read.2)
    ]

places_len : (i : ℕ) (ts : List FieldTree) → length (field_places i ts) ≡ length ts
places_len i [] = refl
places_len i (t ∷ ts) = ap (λ (n : ℕ). suc n) (places_len (i + length (field t)) ts)

other_fault : (f g : ScanFault) (r : Result Head ScanFault) → r ≡ Err f → r ≡ Err g → f ≡ g
other_fault f g r a b = cc

not_not_sip : TooManyHeaders ≢ NotSip
not_not_sip = λ k. cc

not_bad : TooManyHeaders ≢ BadHeader
not_bad = λ k. cc

pub many_fields : (text : List ℕ) → scanned text ≡ Err TooManyHeaders → (t : MessageTree) × IsMessageTree t × (text ≡ message t) × (128 < length t.fields)
many_fields text e =
    let read = read_is text (Err TooManyHeaders) e (λ k. not_not_sip (other_fault TooManyHeaders NotSip (Err TooManyHeaders) refl k)) (λ k. not_bad (other_fault TooManyHeaders BadHeader (Err TooManyHeaders) refl k)) in
    elim (few_or_many read.0) [
      | inl few ↦ absurd (err_ok read.0 TooManyHeaders (at_most_128 read.0) read.2 few.1)
      | inr more ↦
          let t = read.1.0 in
          let items = ap (λ (h : Head). length h.fields.items) read.1.3 in
          (t, read.1.1, read.1.2, omega (arith, items, more.0, places_len (length t.skipped + length t.start + 2) t.fields))
    ]
