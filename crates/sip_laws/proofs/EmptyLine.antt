-- Where the empty line of a message's text stands.
use Rattle.std.proofs.Common.{◌≡◌, ℕ, ◌+◌, ◌<◌, ◌==◌, true, false, List, [], ◌∷◌, ◌++◌, length, drop, refl, sym, ap, ◌∙◌, subst, arith, append_assoc, length-append, length-drop, Some, option_map, inl, inr}
use Rattle.std.specs.List.{flat_map, AllByRecursion}
use Rattle.std.proofs.lemmas.Bool.{cases_eq, ne_eqb, false≢true}
use Rattle.std.proofs.lemmas.Option.{cond_some}
use Rattle.std.proofs.lemmas.List.{drop_at}
use Rattle.std.proofs.lemmas.List.Concat.{flat_map-append}
use Rattle.sip_words.specs.Bytes.{is_wsp}
use Rattle.sip_words.specs.declared.Span.{Span}
use Rattle.sip_words.proofs.Steps.{bind_some}
use Rattle.sip_words.proofs.Pieces.{behind, stands_at, stands_no}
use Rattle.sip_scan.specs.Lines.{is_plain, is_crlf, skipped, first_crlf, speaks_sip, start_line}
use Rattle.sip_scan.specs.Grammar.{crlf, IsLine, FieldTree, IsFieldTree, fields, MessageTree, message, IsMessageTree}
use Rattle.sip_scan.proofs.HeadAgain.{start_place, start_again}
use Rattle.sip_msg.specs.Basis.{first_from}
use Rattle.sip_msg.proofs.Places.{here, goes}
use Rattle.sip_build.specs.WithField.{ends_before_empty, empty_line}
use Rattle.sip_build.proofs.Spelt.{fields_from}
use Rattle.sip_build.proofs.Twins.{value_text}
use Rattle.sip_laws.proofs.Folded.{Piece, Byte, Fold, IsPiece, pieces, Folded, value_folded}
use Rattle.sip_laws.proofs.StartAgain.{line_token}
use Rattle.sip_laws.proofs.StampedVia.{old_field}

-- a plain byte, with or without a CRLF before it
data Unit : Type 0 where
  Plain : ℕ → Unit
  Next : ℕ → Unit

abbrev unit : Unit → List ℕ
unit (Plain b) = b ∷ []
unit (Next b) = 13 ∷ 10 ∷ b ∷ []

abbrev IsUnit : Unit → Type 0
IsUnit (Plain b) = is_plain b ≡ true
IsUnit (Next b) = is_plain b ≡ true

abbrev units_text : List Unit → List ℕ
units_text us = flat_map unit us

record Lined (x : List ℕ) : Type 0 where
  units : List Unit
  are : AllByRecursion IsUnit units
  text : x ≡ units_text units

all_both : (us vs : List Unit) → AllByRecursion IsUnit us → AllByRecursion IsUnit vs → AllByRecursion IsUnit (us ++ vs)
all_both [] vs a c = c
all_both (u ∷ us) vs a c = (a.0, all_both us vs a.1 c)

lined_both : (x y : List ℕ) → Lined x → Lined y → Lined (x ++ y)
lined_both x y f g = record { units = f.units ++ g.units; are = all_both f.units g.units f.are g.are; text = rw (f.text, g.text) (sym (flat_map-append unit f.units g.units)) }

lined_line : (w : List ℕ) → IsLine w → Lined w
lined_line [] a = record { units = []; are = tt; text = refl }
lined_line (b ∷ w) a = let r = lined_line w a.1 in record { units = Plain b ∷ r.units; are = (a.0, r.are); text = ap (λ (z : List ℕ). b ∷ z) r.text }

lined_next : (b : ℕ) (w : List ℕ) → IsLine (b ∷ w) → Lined (crlf ++ (b ∷ w))
lined_next b w a = let r = lined_line w a.1 in record { units = Next b ∷ r.units; are = (a.0, r.are); text = ap (λ (z : List ℕ). 13 ∷ 10 ∷ b ∷ z) r.text }

-- SP and HTAB are plain
plain_blank : (b : ℕ) → is_wsp b ≡ true → is_plain b ≡ true
plain_blank b h = elim (cases_eq b 32) [
  | inl e ↦ subst (λ (x : ℕ). is_plain x ≡ true) (sym e) refl
  | inr n ↦ elim (cases_eq b 9) [
    | inl e ↦ subst (λ (x : ℕ). is_plain x ≡ true) (sym e) refl
    | inr k ↦ let p = ne_eqb b 32 n in let q = ne_eqb b 9 k in absurd (false≢true (sym (rw (p, q) refl) ∙ h))
  ]
]

line_blanks : (w : List ℕ) → AllByRecursion (λ b. is_wsp b ≡ true) w → IsLine w
line_blanks [] a = tt
line_blanks (b ∷ w) a = (plain_blank b a.0, line_blanks w a.1)

of_pieces : (us : List Piece) → AllByRecursion IsPiece us → Lined (pieces us)
of_pieces [] a = record { units = []; are = tt; text = refl }
of_pieces (Byte b ∷ us) a = let r = of_pieces us a.1 in record { units = Plain b ∷ r.units; are = (a.0, r.are); text = ap (λ (z : List ℕ). b ∷ z) r.text }
of_pieces (Fold w ∷ us) a = let r = of_pieces us a.1 in record { units = Next w ∷ r.units; are = (plain_blank w a.0, r.are); text = ap (λ (z : List ℕ). 13 ∷ 10 ∷ w ∷ z) r.text }

lined_folded : (v : List ℕ) → Folded v → Lined v
lined_folded v f = subst Lined (sym f.text) (of_pieces f.units f.are)

-- a name behind a CRLF
lined_name : (name : List ℕ) → 0 < length name → IsLine name → Lined (crlf ++ name)
lined_name [] some a = absurd (omega (arith, some))
lined_name (b ∷ w) some a = lined_next b w a

line_both : (v w : List ℕ) → IsLine v → IsLine w → IsLine (v ++ w)
line_both [] w a c = c
line_both (b ∷ v) w a c = (a.0, line_both v w a.1 c)

-- the fields behind the start line
record FieldsLined (ts : List FieldTree) : Type 0 where
  front : List ℕ
  lined : Lined front
  text : crlf ++ fields ts ≡ front ++ crlf

field_pieces : (nm gap v n rest : List ℕ) → n ++ ((nm ++ (gap ++ (58 ∷ (v ++ n)))) ++ rest) ≡ ((n ++ nm) ++ ((gap ++ (58 ∷ [])) ++ v)) ++ (n ++ rest)
field_pieces nm gap v n rest = simp append_assoc

fields_lined : (ts : List FieldTree) → AllByRecursion IsFieldTree ts → FieldsLined ts
fields_lined [] a = record { front = []; lined = record { units = []; are = tt; text = refl }; text = refl }
fields_lined (t ∷ ts) a =
    let rest = fields_lined ts a.1 in
    let is = a.0 in
    let head = crlf ++ t.name in
    let mark = t.gap ++ (58 ∷ []) in
    let v = value_text t in
    let one = lined_name t.name is.name.some (line_token t.name is.name) in
    let two = lined_line mark (line_both t.gap (58 ∷ []) (line_blanks t.gap is.gap) (refl, tt)) in
    let three = lined_folded v (value_folded t is) in
    let mine = lined_both head (mark ++ v) one (lined_both mark v two three) in
    record {
      front = (head ++ (mark ++ v)) ++ rest.front;
      lined = lined_both (head ++ (mark ++ v)) rest.front mine rest.lined;
      text = ap (λ (z : List ℕ). crlf ++ (z ++ fields ts)) (old_field t is v refl) ∙ field_pieces t.name t.gap v crlf (fields ts) ∙ ap (λ (z : List ℕ). (head ++ (mark ++ v)) ++ z) rest.text ∙ sym (append_assoc (head ++ (mark ++ v)) rest.front crlf);
    }

-- a plain byte is no CR
not_cr : (b : ℕ) → is_plain b ≡ true → (b == 13) ≡ false
not_cr b h = elim (cases_eq b 13) [ inl e ↦ absurd (false≢true (ap is_plain (sym e) ∙ h)) | inr n ↦ ne_eqb b 13 n ]

-- no CR, no CRLF
no_crlf : (text : List ℕ) (i b : ℕ) (rest : List ℕ) → drop i text ≡ b ∷ rest → (b == 13) ≡ false → is_crlf text i ≡ false
unfolding is_crlf
no_crlf text i b rest h ne = let off = stands_no 13 text i (b ∷ rest) h ne in rw off refl

a_crlf : (text : List ℕ) (i : ℕ) (rest : List ℕ) → drop i text ≡ 13 ∷ 10 ∷ rest → is_crlf text i ≡ true
unfolding is_crlf
a_crlf text i rest h =
    let cr = stands_at 13 text i (10 ∷ rest) h in
    let lf = stands_at 10 text (i + 1) rest (behind text i (13 ∷ []) (10 ∷ rest) h) in
    rw (cr, lf) refl

inside : (text : List ℕ) (i b : ℕ) (rest : List ℕ) → drop i text ≡ b ∷ rest → i < length text
inside text i b rest h = omega (arith, length-drop i text, ap (λ (x : List ℕ). length x) h)

one_step : (text : List ℕ) (i b : ℕ) (rest : List ℕ) → drop i text ≡ b ∷ rest → (b == 13) ≡ false → first_from (ends_before_empty text) text i ≡ first_from (ends_before_empty text) text (i + 1)
unfolding ends_before_empty
one_step text i b rest h ne = let off = no_crlf text i b rest h ne in sym (goes (ends_before_empty text) text i (inside text i b rest h) (rw off refl))

next_step : (text : List ℕ) (i b : ℕ) (rest : List ℕ) → drop i text ≡ 13 ∷ 10 ∷ b ∷ rest → (b == 13) ≡ false → first_from (ends_before_empty text) text i ≡ first_from (ends_before_empty text) text (i + 1)
unfolding ends_before_empty
next_step text i b rest h ne =
    let on = a_crlf text i (b ∷ rest) h in
    let off = no_crlf text (i + 2) b rest (behind text i (13 ∷ 10 ∷ []) (b ∷ rest) h) ne in
    sym (goes (ends_before_empty text) text i (inside text i 13 (10 ∷ b ∷ rest) h) (rw (on, off) refl))

last_step : (text : List ℕ) (i : ℕ) (rest : List ℕ) → drop i text ≡ 13 ∷ 10 ∷ 13 ∷ 10 ∷ rest → first_from (ends_before_empty text) text i ≡ Some i
unfolding ends_before_empty
last_step text i rest h =
    let one = a_crlf text i (13 ∷ 10 ∷ rest) h in
    let two = a_crlf text (i + 2) rest (behind text i (13 ∷ 10 ∷ []) (13 ∷ 10 ∷ rest) h) in
    here (ends_before_empty text) text i (inside text i 13 (10 ∷ 13 ∷ 10 ∷ rest) h) (rw (one, two) refl)

scan : (text : List ℕ) (i : ℕ) (us : List Unit) (rest : List ℕ) → AllByRecursion IsUnit us → drop i text ≡ units_text us ++ (13 ∷ 10 ∷ 13 ∷ 10 ∷ rest) → first_from (ends_before_empty text) text i ≡ Some (i + length (units_text us))
scan text i [] rest a h = last_step text i rest h ∙ ap (λ (n : ℕ). Some n) (omega arith)
scan text i (Plain b ∷ us) rest a h =
    let more = units_text us ++ (13 ∷ 10 ∷ 13 ∷ 10 ∷ rest) in
    let later = scan text (i + 1) us rest a.1 (behind text i (b ∷ []) more h) in
    one_step text i b more h (not_cr b a.0) ∙ later ∙ ap (λ (n : ℕ). Some n) (omega arith)
scan text i (Next b ∷ us) rest a h =
    let more = units_text us ++ (13 ∷ 10 ∷ 13 ∷ 10 ∷ rest) in
    let at_1 = behind text i (13 ∷ []) (10 ∷ b ∷ more) h in
    let at_2 = behind text i (13 ∷ 10 ∷ []) (b ∷ more) h in
    let at_3 = behind text i (13 ∷ 10 ∷ b ∷ []) more h in
    let later = scan text (i + 3) us rest a.1 at_3 in
    let one = next_step text i b more h (not_cr b a.0) in
    let two = one_step text (i + 1) 10 (b ∷ more) at_1 refl in
    let three = one_step text (i + 2) b more at_2 (not_cr b a.0) in
    let k : i + 1 + 1 ≡ i + 2 = omega arith in
    let l : i + 2 + 1 ≡ i + 3 = omega arith in
    one ∙ two ∙ ap (λ (n : ℕ). first_from (ends_before_empty text) text n) k ∙ three ∙ ap (λ (n : ℕ). first_from (ends_before_empty text) text n) l ∙ later ∙ ap (λ (n : ℕ). Some n) (omega arith)

-- the CR and LF in front
skipped_is : (t : MessageTree) → IsMessageTree t → skipped (message t) ≡ length t.skipped
unfolding start_line
skipped_is t is =
    let b = message t in
    let e = start_again b t is refl in
    let end = bind_some (first_crlf b (skipped b)) _ (start_place t) e in
    let c = cond_some (speaks_sip (Rattle.std.specs.Prelude.slice_range b (skipped b) end.0)) (Rattle.sip_words.specs.Spans.span (skipped b) end.0) (start_place t) end.2 in
    ap (λ (s : Span). s.from) c.1

in_message : (sk st n f body : List ℕ) → sk ++ (st ++ (n ++ (f ++ (n ++ body)))) ≡ sk ++ ((st ++ (n ++ f)) ++ (n ++ body))
in_message sk st n f body = simp append_assoc

last_line : (st x n body : List ℕ) → (st ++ (x ++ n)) ++ (n ++ body) ≡ (st ++ x) ++ (n ++ (n ++ body))
last_line st x n body = simp append_assoc

pub empty_line_is : (t : MessageTree) → IsMessageTree t → empty_line (message t) ≡ Some (fields_from t + length (fields t.fields))
unfolding empty_line
empty_line_is t is =
    let text = message t in
    let f = fields_lined t.fields is.fields in
    let all = lined_both t.start f.front (lined_line t.start is.start) f.lined in
    let x = t.start ++ f.front in
    let whole : text ≡ t.skipped ++ (x ++ (crlf ++ (crlf ++ t.body))) = in_message t.skipped t.start crlf (fields t.fields) t.body ∙ ap (λ (z : List ℕ). t.skipped ++ ((t.start ++ z) ++ (crlf ++ t.body))) f.text ∙ ap (λ (z : List ℕ). t.skipped ++ z) (last_line t.start f.front crlf t.body) in
    let at : drop (length t.skipped) text ≡ units_text all.units ++ (13 ∷ 10 ∷ 13 ∷ 10 ∷ t.body) = ap (λ (z : List ℕ). drop (length t.skipped) z) whole ∙ drop_at t.skipped (x ++ (crlf ++ (crlf ++ t.body))) (length t.skipped) refl ∙ ap (λ (z : List ℕ). z ++ (13 ∷ 10 ∷ 13 ∷ 10 ∷ t.body)) all.text in
    let found = scan text (length t.skipped) all.units t.body all.are at in
    let x_len : length (units_text all.units) ≡ length t.start + length f.front = sym (ap (λ (z : List ℕ). length z) all.text) ∙ length-append t.start f.front in
    let f_len : length (crlf ++ fields t.fields) ≡ length f.front + 2 = ap (λ (z : List ℕ). length z) f.text ∙ length-append f.front crlf in
    ap (λ (n : ℕ). option_map (λ i. i + 2) (first_from (ends_before_empty text) text n)) (skipped_is t is) ∙ ap (λ (o : Rattle.std.specs.Prelude.Option ℕ). option_map (λ i. i + 2) o) found ∙ ap (λ (n : ℕ). Some n) (omega (arith, x_len, f_len, length-append crlf (fields t.fields)))
