-- A message as the tree of its text, and the tree with one field more before its first Via.
use Rattle.std.proofs.Common.{◌≡◌, ℕ, ◌+◌, List, [], ◌∷◌, ◌++◌, length, take, drop, refl, sym, ap, ◌∙◌, subst, arith, append_assoc, length-append, Some}
use Rattle.std.specs.List.{find, AllByRecursion}
use Rattle.std.proofs.lemmas.List.{take_at, drop_at}
use Rattle.std.proofs.lemmas.List.Concat.{flat_map-append}
use Rattle.sip_words.proofs.Steps.{bind_some}
use Rattle.sip_scan.specs.declared.field.HeaderSpan.{HeaderSpan}
use Rattle.sip_scan.specs.declared.field.Kind.TheVariants as kind
use Rattle.sip_scan.specs.declared.Head.{Head}
use Rattle.sip_scan.specs.Lines.{start_line}
use Rattle.sip_scan.specs.Field.{full_name, kind_of}
use Rattle.sip_scan.specs.Head.{head_behind}
use Rattle.sip_scan.specs.Grammar.{crlf, FieldTree, field, IsFieldTree, field_place, fields, field_places, MessageTree, message, IsMessageTree, head_place}
use Rattle.sip_scan.proofs.HeadTakes.{head_takes}
use Rattle.sip_msg.specs.declared.message.Message.{Message}
use Rattle.sip_msg.specs.Fields.{is_of, first}
use Rattle.sip_msg.specs.Table.{head_of, Reads}
use Rattle.outside_ports.specs.declared.port.Addr.{Addr}
use Rattle.sip_build.proofs.Readings.{via_field}
use Rattle.sip_build.proofs.Twins.{AreTwins, twins_here, twins_append, Split, split, places_append}
use Rattle.sip_build.proofs.Under.{Under}
use Rattle.sip_build.proofs.NewVia.{new_field}

-- the first place of a field
abbrev pub fields_from : MessageTree → ℕ
fields_from t = length t.skipped + length t.start + 2

pub record Spelt (b : List ℕ) (m : Message) : Type 0 where
  pub tree : MessageTree
  pub is : IsMessageTree tree
  pub text : b ≡ message tree
  pub head : m.head ≡ head_place tree
  pub via : HeaderSpan
  pub via_is : first kind.Via m.head.fields.items ≡ Some via
  pub cut : Split (is_of kind.Via) (fields_from tree) tree.fields via

pub spelt : (b : List ℕ) (m : Message) → Reads b m → Spelt b m
unfolding head_of
spelt b m r =
    let line = bind_some (start_line b) (head_behind b) m.head r.head in
    let t = head_takes b line.0 m.head line.1 line.2 in
    let f = via_field b m.head.fields.items m r.parts.via in
    let items : m.head.fields.items ≡ field_places (fields_from t.0) t.0.fields = ap (λ (h : Head). h.fields.items) t.3 in
    let found : find (is_of kind.Via) (field_places (fields_from t.0) t.0.fields) ≡ Some f.0 = subst (λ (xs : List HeaderSpan). first kind.Via xs ≡ Some f.0) items f.1 in
    record { tree = t.0; is = t.1; text = t.2; head = t.3; via = f.0; via_is = f.1; cut = split (is_of kind.Via) (fields_from t.0) t.0.fields f.0 found }

-- the tree with one field more
abbrev pub with_field : MessageTree → List FieldTree → FieldTree → List FieldTree → MessageTree
with_field t before n after = record { skipped = t.skipped; start = t.start; fields = before ++ (n ∷ after); body = t.body }

all_insert : (before : List FieldTree) (n : FieldTree) (after : List FieldTree) → IsFieldTree n → AllByRecursion IsFieldTree (before ++ after) → AllByRecursion IsFieldTree (before ++ (n ∷ after))
all_insert [] n after h a = (h, a)
all_insert (t ∷ before) n after h a = (a.0, all_insert before n after h a.1)

pub is_with : (t : MessageTree) (before : List FieldTree) (n : FieldTree) (after : List FieldTree) → IsMessageTree t → t.fields ≡ before ++ after → IsFieldTree n → IsMessageTree (with_field t before n after)
is_with t before n after is e h = record { skipped = is.skipped; start = is.start; sip = is.sip; fields = all_insert before n after h (subst (λ (ts : List FieldTree). AllByRecursion IsFieldTree ts) e is.fields) }

-- what stands before the fields, and what stands behind them
abbrev pub before_fields : MessageTree → List ℕ
before_fields t = t.skipped ++ (t.start ++ crlf)

abbrev pub behind_fields : MessageTree → List ℕ
behind_fields t = crlf ++ t.body

pub front_length : (t : MessageTree) → fields_from t ≡ length (before_fields t)
front_length t = omega (arith, length-append t.skipped (t.start ++ crlf), length-append t.start crlf)

grouped : (skipped start crlf all rest : List ℕ) → skipped ++ (start ++ (crlf ++ (all ++ rest))) ≡ (skipped ++ (start ++ crlf)) ++ (all ++ rest)
grouped skipped start crlf all rest = simp append_assoc

pub in_fields : (t : MessageTree) → message t ≡ before_fields t ++ (fields t.fields ++ behind_fields t)
in_fields t = grouped t.skipped t.start crlf (fields t.fields) (behind_fields t)

pub fields_append : (ts us : List FieldTree) → fields (ts ++ us) ≡ fields ts ++ fields us
fields_append ts us = flat_map-append field ts us

parted : (pre a r last : List ℕ) → pre ++ ((a ++ r) ++ last) ≡ (pre ++ a) ++ (r ++ last)
parted pre a r last = simp append_assoc

parted_more : (pre a n r last : List ℕ) → pre ++ ((a ++ (n ++ r)) ++ last) ≡ (pre ++ a) ++ (n ++ (r ++ last))
parted_more pre a n r last = simp append_assoc

first_part : (pre a r last : List ℕ) → pre ++ ((a ++ r) ++ last) ≡ pre ++ (a ++ (r ++ last))
first_part pre a r last = simp append_assoc

first_more : (pre a n r last : List ℕ) → pre ++ ((a ++ (n ++ r)) ++ last) ≡ pre ++ (a ++ (n ++ (r ++ last)))
first_more pre a n r last = simp append_assoc

third_more : (pre a n r last : List ℕ) → pre ++ ((a ++ (n ++ r)) ++ last) ≡ ((pre ++ a) ++ n) ++ (r ++ last)
third_more pre a n r last = simp append_assoc

pub old_fields : (b : List ℕ) (t : MessageTree) (before after : List FieldTree) → b ≡ message t → t.fields ≡ before ++ after → b ≡ before_fields t ++ ((fields before ++ fields after) ++ behind_fields t)
old_fields b t before after h e = h ∙ in_fields t ∙ ap (λ (ts : List FieldTree). before_fields t ++ (fields ts ++ behind_fields t)) e ∙ ap (λ (x : List ℕ). before_fields t ++ (x ++ behind_fields t)) (fields_append before after)

pub new_fields : (t : MessageTree) (before : List FieldTree) (n : FieldTree) (after : List FieldTree) → message (with_field t before n after) ≡ before_fields t ++ ((fields before ++ (field n ++ fields after)) ++ behind_fields t)
new_fields t before n after = in_fields (with_field t before n after) ∙ ap (λ (x : List ℕ). before_fields t ++ (x ++ behind_fields t)) (fields_append before (n ∷ after))

-- the new text is the old one with the field put in
pub put_before : (b : List ℕ) (t : MessageTree) (before : List FieldTree) (n : FieldTree) (after : List FieldTree) (place : ℕ) → b ≡ message t → t.fields ≡ before ++ after → place ≡ fields_from t + length (fields before) → message (with_field t before n after) ≡ take place b ++ (field n ++ drop place b)
put_before b t before n after place h e p =
    let front = before_fields t ++ fields before in
    let rest = fields after ++ behind_fields t in
    let old : b ≡ front ++ rest = old_fields b t before after h e ∙ parted (before_fields t) (fields before) (fields after) (behind_fields t) in
    let new : message (with_field t before n after) ≡ front ++ (field n ++ rest) = new_fields t before n after ∙ parted_more (before_fields t) (fields before) (field n) (fields after) (behind_fields t) in
    let len : length front ≡ place = omega (arith, p, front_length t, length-append (before_fields t) (fields before)) in
    let taken : take place b ≡ front = ap (λ (x : List ℕ). take place x) old ∙ take_at front rest place len in
    let dropped : drop place b ≡ rest = ap (λ (x : List ℕ). drop place x) old ∙ drop_at front rest place len in
    new ∙ rw (taken, dropped) refl

-- the fields of the new text are twins of the old ones, and the new field
pub under : (b : List ℕ) (m : Message) (t : MessageTree) (before : List FieldTree) (listen : Addr) (branch : List ℕ) (after : List FieldTree) → b ≡ message t → m.head ≡ head_place t → t.fields ≡ before ++ after → Under b m.head.fields.items (message (with_field t before (new_field listen branch) after)) (field_places (fields_from t) (before ++ (new_field listen branch ∷ after))) (field_place (fields_from t + length (fields before)) (new_field listen branch))
unfolding new_field kind_of full_name
under b m t before listen branch after h head e =
    let n = new_field listen branch in
    let c = message (with_field t before n after) in
    let i = fields_from t in
    let q = i + length (fields before) in
    let pre = before_fields t in
    let last = behind_fields t in
    let old = old_fields b t before after h e in
    let new = new_fields t before n after in
    let len = front_length t in
    let first_twins = twins_here b c pre pre (fields after ++ last) (field n ++ (fields after ++ last)) i i before len len (old ∙ first_part pre (fields before) (fields after) last) (new ∙ first_more pre (fields before) (field n) (fields after) last) in
    let last_twins = twins_here b c (pre ++ fields before) ((pre ++ fields before) ++ field n) last last q (q + length (field n)) after (omega (arith, len, length-append pre (fields before))) (omega (arith, len, length-append pre (fields before), length-append (pre ++ fields before) (field n))) (old ∙ parted pre (fields before) (fields after) last) (new ∙ third_more pre (fields before) (field n) (fields after) last) in
    let items : m.head.fields.items ≡ field_places i before ++ field_places q after = ap (λ (x : Head). x.fields.items) head ∙ ap (λ (ts : List FieldTree). field_places i ts) e ∙ places_append i before after in
    let both = twins_append b c (field_places i before) (field_places i before) (field_places q after) (field_places (q + length (field n)) after) first_twins last_twins in
    record {
      before = field_places i before;
      after = field_places (q + length (field n)) after;
      whole = places_append i before (n ∷ after);
      twins = subst (λ (xs : List HeaderSpan). AreTwins b xs c (field_places i before ++ field_places (q + length (field n)) after)) (sym items) both;
      kind = refl;
    }
