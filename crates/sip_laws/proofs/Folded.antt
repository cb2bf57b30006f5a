-- Values that may go on in continuation lines, as units: a byte of a line, or a CRLF and the blank behind it.
use Rattle.std.proofs.Common.{◌≡◌, ℕ, ◌-◌, true, false, List, [], ◌∷◌, ◌++◌, length, take, refl, sym, ap, ◌∙◌, subst, arith, append_assoc, length-append}
use Rattle.std.specs.List.{flat_map, AllByRecursion}
use Rattle.std.proofs.lemmas.Bool.{false≢true}
use Rattle.std.proofs.lemmas.List.{take_at}
use Rattle.std.proofs.lemmas.List.Concat.{flat_map-append}
use Rattle.sip_words.specs.Bytes.{is_wsp}
use Rattle.sip_words.specs.declared.bytes.Class.TheVariants.{Token}
use Rattle.sip_words.specs.Grammar.{Blank, Space, Tab, FoldSpace, FoldTab, lws, IsWord}
use Rattle.sip_scan.specs.Lines.{is_break, is_plain}
use Rattle.sip_scan.specs.Grammar.{crlf, IsLine, IsContinuation, lines, FieldTree, field, IsFieldTree}
use Rattle.sip_build.proofs.Twins.{behind_colon, value_text}

pub data Piece : Type 0 where
  Byte : ℕ → Piece
  Fold : ℕ → Piece

abbrev pub piece : Piece → List ℕ
piece (Byte b) = b ∷ []
piece (Fold w) = 13 ∷ 10 ∷ w ∷ []

abbrev pub IsPiece : Piece → Type 0
IsPiece (Byte b) = is_plain b ≡ true
IsPiece (Fold w) = is_wsp w ≡ true

abbrev pub pieces : List Piece → List ℕ
pieces us = flat_map piece us

pub record Folded (v : List ℕ) : Type 0 where
  pub units : List Piece
  pub are : AllByRecursion IsPiece units
  pub text : v ≡ pieces units

all_both : (us vs : List Piece) → AllByRecursion IsPiece us → AllByRecursion IsPiece vs → AllByRecursion IsPiece (us ++ vs)
all_both [] vs a c = c
all_both (u ∷ us) vs a c = (a.0, all_both us vs a.1 c)

pub folded_both : {v w : List ℕ} → Folded v → Folded w → Folded (v ++ w)
folded_both {v} {w} f g = record {
  units = f.units ++ g.units;
  are = all_both f.units g.units f.are g.are;
  text = rw (f.text, g.text) (sym (flat_map-append piece f.units g.units));
}

pub folded_nothing : Folded []
folded_nothing = record { units = []; are = tt; text = refl }

pub folded_line : (w : List ℕ) → IsLine w → Folded w
folded_line [] a = folded_nothing
folded_line (b ∷ w) a =
    let rest = folded_line w a.1 in
    record { units = Byte b ∷ rest.units; are = (a.0, rest.are); text = ap (λ (t : List ℕ). b ∷ t) rest.text }

-- LWS is folded
pub folded_lws : (bs : List Blank) → Folded (lws bs)
folded_lws [] = folded_nothing
folded_lws (Space ∷ bs) = let r = folded_lws bs in record { units = Byte 32 ∷ r.units; are = (refl, r.are); text = ap (λ (t : List ℕ). 32 ∷ t) r.text }
folded_lws (Tab ∷ bs) = let r = folded_lws bs in record { units = Byte 9 ∷ r.units; are = (refl, r.are); text = ap (λ (t : List ℕ). 9 ∷ t) r.text }
folded_lws (FoldSpace ∷ bs) = let r = folded_lws bs in record { units = Fold 32 ∷ r.units; are = (refl, r.are); text = ap (λ (t : List ℕ). 13 ∷ 10 ∷ 32 ∷ t) r.text }
folded_lws (FoldTab ∷ bs) = let r = folded_lws bs in record { units = Fold 9 ∷ r.units; are = (refl, r.are); text = ap (λ (t : List ℕ). 13 ∷ 10 ∷ 9 ∷ t) r.text }

-- the last byte, where there is one, is neither CR nor LF
abbrev pub EndsWell : List ℕ → Type 0
EndsWell [] = Unit {0}
EndsWell (b ∷ []) = is_break b ≡ false
EndsWell (b ∷ c ∷ w) = EndsWell (c ∷ w)

pub record TwoFolded (x y : List ℕ) : Type 0 where
  pub front : Folded x
  pub back : Folded y

later : (b : ℕ) (x : List ℕ) → EndsWell (b ∷ x) → EndsWell x
later b [] h = tt
later b (c ∷ x) h = h

three_same : (b c d w : ℕ) (x z : List ℕ) → b ≡ 13 → c ≡ 10 → d ≡ w → x ≡ z → b ∷ c ∷ d ∷ x ≡ 13 ∷ 10 ∷ w ∷ z
three_same b c d w x z e f g h = cc

cut_units : (us : List Piece) (x y : List ℕ) → EndsWell x → AllByRecursion IsPiece us → x ++ y ≡ pieces us → TwoFolded x y
cut_units us [] y h a e = record { front = folded_nothing; back = record { units = us; are = a; text = e } }
cut_units [] (b ∷ x) y h a e = absurd (cc)
cut_units (Byte c ∷ us) (b ∷ x) y h a e =
    let same : b ≡ c = cc in
    let rest : x ++ y ≡ pieces us = cc in
    let t = cut_units us x y (later b x h) a.1 rest in
    record { front = record { units = Byte b ∷ t.front.units; are = (subst (λ (n : ℕ). is_plain n ≡ true) (sym same) a.0, t.front.are); text = ap (λ (z : List ℕ). b ∷ z) t.front.text }; back = t.back }
cut_units (Fold w ∷ us) (b ∷ []) y h a e =
    let same : b ≡ 13 = cc in
    absurd (false≢true (sym h ∙ ap is_break same))
cut_units (Fold w ∷ us) (b ∷ c ∷ []) y h a e =
    let same : c ≡ 10 = cc in
    absurd (false≢true (sym h ∙ ap is_break same))
cut_units (Fold w ∷ us) (b ∷ c ∷ d ∷ x) y h a e =
    let one : b ≡ 13 = cc in
    let two : c ≡ 10 = cc in
    let three : d ≡ w = cc in
    let rest : x ++ y ≡ pieces us = cc in
    let t = cut_units us x y (later d x h) a.1 rest in
    record {
      front = record { units = Fold w ∷ t.front.units; are = (a.0, t.front.are); text = three_same b c d w x (pieces t.front.units) one two three t.front.text };
      back = t.back;
    }

pub cut_folded : (x y : List ℕ) → EndsWell x → Folded (x ++ y) → TwoFolded x y
cut_folded x y h f = cut_units f.units x y h f.are f.text

-- the lines of a folded value
pub record HasLines (v : List ℕ) : Type 0 where
  pub first : List ℕ
  pub more : List (List ℕ)
  pub is_first : IsLine first
  pub are_more : AllByRecursion IsContinuation more
  pub text : v ++ crlf ≡ first ++ (crlf ++ lines more)

lines_of : (us : List Piece) → AllByRecursion IsPiece us → HasLines (pieces us)
lines_of [] a = record { first = []; more = []; is_first = tt; are_more = tt; text = refl }
lines_of (Byte b ∷ us) a =
    let r = lines_of us a.1 in
    record { first = b ∷ r.first; more = r.more; is_first = (a.0, r.is_first); are_more = r.are_more; text = ap (λ (z : List ℕ). b ∷ z) r.text }
lines_of (Fold w ∷ us) a =
    let r = lines_of us a.1 in
    record {
      first = [];
      more = (w ∷ r.first) ∷ r.more;
      is_first = tt;
      are_more = ((a.0, r.is_first), r.are_more);
      text = ap (λ (z : List ℕ). 13 ∷ 10 ∷ w ∷ z) (r.text ∙ sym (append_assoc r.first crlf (lines r.more)));
    }

pub has_lines : {v : List ℕ} → Folded v → HasLines v
has_lines {v} f =
    let r = lines_of f.units f.are in
    record { first = r.first; more = r.more; is_first = r.is_first; are_more = r.are_more; text = rw f.text r.text }

-- the value of a field is folded
record Units (x : List ℕ) : Type 0 where
  pub units : List Piece
  pub are : AllByRecursion IsPiece units
  pub text : x ≡ pieces units ++ crlf

units_line : (line rest : List ℕ) → IsLine line → Units rest → Units (line ++ rest)
units_line [] rest a u = u
units_line (b ∷ line) rest a u =
    let r = units_line line rest a.1 u in
    record { units = Byte b ∷ r.units; are = (a.0, r.are); text = ap (λ (z : List ℕ). b ∷ z) r.text }

units_of : (line : List ℕ) (more : List (List ℕ)) → IsLine line → AllByRecursion IsContinuation more → Units (line ++ (crlf ++ lines more))
units_of line [] a c = units_line line crlf a (record { units = []; are = tt; text = refl })
units_of line ([] ∷ more) a c = absurd c.0
units_of line ((w ∷ next) ∷ more) a c =
    let r = units_of next more c.0.1 c.1 in
    let behind : (next ++ crlf) ++ lines more ≡ pieces r.units ++ crlf = append_assoc next crlf (lines more) ∙ r.text in
    units_line line _ a (record { units = Fold w ∷ r.units; are = (c.0.0, r.are); text = ap (λ (z : List ℕ). 13 ∷ 10 ∷ w ∷ z) behind })

pub two_less : (x : List ℕ) → take (length (x ++ crlf) - 2) (x ++ crlf) ≡ x
two_less x = take_at x crlf (length (x ++ crlf) - 2) (omega (arith, length-append x crlf))

pub value_folded : (t : FieldTree) → IsFieldTree t → Folded (value_text t)
unfolding value_text behind_colon
value_folded t is =
    let u = units_of t.first t.more is.first is.more in
    record { units = u.units; are = u.are; text = rw u.text (two_less (pieces u.units)) }

-- what stands behind the colon is the value and a CRLF
pub behind_is : (t : FieldTree) → IsFieldTree t → behind_colon t ≡ value_text t ++ crlf
unfolding value_text behind_colon
behind_is t is =
    let u = units_of t.first t.more is.first is.more in
    rw u.text (ap (λ (z : List ℕ). z ++ crlf) (sym (two_less (pieces u.units))))

-- the field with this name, whose value is folded
unfoldable pub field_of : (name : List ℕ) {v : List ℕ} → Folded v → FieldTree
field_of name f = let l = has_lines f in record { name = name; gap = []; first = l.first; more = l.more }

pub is_field_of : (name : List ℕ) {v : List ℕ} (f : Folded v) → IsWord Token name → IsFieldTree (field_of name f)
unfolding field_of
is_field_of name f word = let l = has_lines f in record { name = word; gap = tt; first = l.is_first; more = l.are_more }

pub value_of_field : (name : List ℕ) {v : List ℕ} (f : Folded v) → value_text (field_of name f) ≡ v
unfolding value_text behind_colon field_of
value_of_field name {v} f = let l = has_lines f in rw (← l.text) (two_less v)

pub text_of_field : (name : List ℕ) {v : List ℕ} (f : Folded v) → field (field_of name f) ≡ name ++ (58 ∷ (v ++ crlf))
unfolding field_of
text_of_field name {v} f = let l = has_lines f in ap (λ (z : List ℕ). name ++ (58 ∷ z)) (sym l.text)

-- the same field with another value
unfoldable pub field_with : (t : FieldTree) {v : List ℕ} → Folded v → FieldTree
field_with t f = let l = has_lines f in record { name = t.name; gap = t.gap; first = l.first; more = l.more }

pub is_field_with : (t : FieldTree) {v : List ℕ} (f : Folded v) → IsFieldTree t → IsFieldTree (field_with t f)
unfolding field_with
is_field_with t f is = let l = has_lines f in record { name = is.name; gap = is.gap; first = l.is_first; more = l.are_more }

pub value_with : (t : FieldTree) {v : List ℕ} (f : Folded v) → value_text (field_with t f) ≡ v
unfolding value_text behind_colon field_with
value_with t {v} f = let l = has_lines f in rw (← l.text) (two_less v)

pub text_with : (t : FieldTree) {v : List ℕ} (f : Folded v) → field (field_with t f) ≡ t.name ++ (t.gap ++ (58 ∷ (v ++ crlf)))
unfolding field_with
text_with t {v} f = let l = has_lines f in ap (λ (z : List ℕ). t.name ++ (t.gap ++ (58 ∷ z))) (sym l.text)

pub name_of_field : (name : List ℕ) {v : List ℕ} (f : Folded v) → (field_of name f).name ≡ name
unfolding field_of
name_of_field name f = refl

pub name_with : (t : FieldTree) {v : List ℕ} (f : Folded v) → (field_with t f).name ≡ t.name
unfolding field_with
name_with t f = refl
