-- A response with a field more before its empty line reads.
use Rattle.std.proofs.Common.{◌≡◌, ℕ, zero, suc, ◌+◌, ◌<◌, ◌≤◌, true, false, List, [], ◌∷◌, ◌++◌, length, take, drop, refl, sym, ap, ◌∙◌, subst, arith, append_assoc, length-append, Option, Some}
use Rattle.std.specs.Prelude.{slice_index_or}
use Rattle.std.specs.List.{Contains, AllByRecursion}
use Rattle.std.proofs.lemmas.List.{append-nil, take_at, drop_at}
use Rattle.std.proofs.lemmas.List.Elements.{filter-append}
use Rattle.sip_words.specs.Spans.{span}
use Rattle.sip_scan.specs.declared.Head.{Head}
use Rattle.sip_scan.specs.declared.field.HeaderSpan.{HeaderSpan}
use Rattle.sip_scan.specs.declared.field.Kind.{Kind}
use Rattle.sip_scan.specs.declared.field.Kind.TheVariants as kind
use Rattle.sip_scan.specs.Field.{is_same_kind}
use Rattle.sip_scan.specs.Grammar.{FieldTree, field, IsFieldTree, fields, MessageTree, message, IsMessageTree}
use Rattle.sip_scan.proofs.HeadAgain.{start_place}
use Rattle.sip_msg.specs.declared.message.Message.{Message}
use Rattle.sip_msg.specs.Start.{start_at}
use Rattle.sip_msg.specs.Table.{Reads}
use Rattle.sip_build.specs.Parts.{part}
use Rattle.sip_build.specs.WithField.{empty_line, put_at, with_field}
use Rattle.sip_build.proofs.ReadsUnder.{places_length}
use Rattle.sip_build.proofs.Spelt.{spelt, fields_from, before_fields, behind_fields, front_length, in_fields, fields_append}
use Rattle.sip_build.proofs.Under.{in_front}
use Rattle.sip_laws.specs.Sent.{IsResponse, HasField}
use Rattle.sip_laws.proofs.Trees.{is_named, all_named, Stands, AllStand, texts_stand, Fields, ListReads}
use Rattle.sip_laws.proofs.Tags.{all_append}
use Rattle.sip_laws.proofs.Hops.{no_list, via_then}
use Rattle.sip_laws.proofs.Known.{known_by, known}
use Rattle.sip_laws.proofs.Relaying.{other_kind, front_is, start_of_tree, status_fits}
use Rattle.sip_laws.proofs.Renewed.{NewFields, renewed, same_find, hops_stay}
use Rattle.sip_laws.proofs.Again.{whole_body, again_with, made_count}
use Rattle.sip_laws.proofs.EmptyLine.{empty_line_is}

-- a field of a message by its tree
record FieldOf (c : List ℕ) (f : HeaderSpan) : Type 0 where
  tree : FieldTree
  is : IsFieldTree tree
  stands : Stands c f tree

field_in : (c : List ℕ) (fs : List HeaderSpan) (ts : List FieldTree) (k : ℕ) (f : HeaderSpan) → AllStand c fs ts → AllByRecursion IsFieldTree ts → k < length fs → slice_index_or fs k f ≡ f → FieldOf c f
field_in c [] [] k f h a lt e = absurd (omega (arith, lt))
field_in c [] (t ∷ ts) k f h a lt e = absurd h
field_in c (g ∷ fs) [] k f h a lt e = absurd h
field_in c (g ∷ fs) (t ∷ ts) zero f h a lt e = record { tree = t; is = a.0; stands = subst (λ (x : HeaderSpan). Stands c x t) e h.0 }
field_in c (g ∷ fs) (t ∷ ts) (suc k) f h a lt e = field_in c fs ts k f h.1 a.1 (omega (arith, lt)) e

-- the tree with the field behind all others
abbrev tree_more : MessageTree → FieldTree → MessageTree
tree_more t n = record { skipped = t.skipped; start = t.start; fields = t.fields ++ (n ∷ []); body = t.body }

three : (p f n rest : List ℕ) → (p ++ f) ++ (n ++ rest) ≡ p ++ ((f ++ n) ++ rest)
three p f n rest = simp append_assoc

with_field_is : (b : List ℕ) (t : MessageTree) (n : FieldTree) → b ≡ message t → IsMessageTree t → with_field b (field n) ≡ message (tree_more t n)
unfolding with_field
with_field_is b t n e is =
    let place = fields_from t + length (fields t.fields) in
    let front = before_fields t ++ fields t.fields in
    let rest = behind_fields t in
    let found : empty_line b ≡ Some place = ap (λ (z : List ℕ). empty_line z) e ∙ empty_line_is t is in
    let whole : b ≡ front ++ rest = e ∙ in_fields t ∙ sym (append_assoc (before_fields t) (fields t.fields) rest) in
    let len : length front ≡ place = omega (arith, front_length t, length-append (before_fields t) (fields t.fields)) in
    let before : take place b ≡ front = ap (λ (z : List ℕ). take place z) whole ∙ take_at front rest place len in
    let behind : drop place b ≡ rest = ap (λ (z : List ℕ). drop place z) whole ∙ drop_at front rest place len in
    let all : fields (t.fields ++ (n ∷ [])) ≡ fields t.fields ++ field n = fields_append t.fields (n ∷ []) ∙ ap (λ (z : List ℕ). fields t.fields ++ z) (append-nil (field n)) in
    ap (λ (o : Option ℕ). put_at o b (field n)) found ∙ rw (before, behind) (three (before_fields t) (fields t.fields) (field n) rest) ∙ ap (λ (z : List ℕ). before_fields t ++ (z ++ rest)) (sym all) ∙ sym (in_fields (tree_more t n))

-- what is read of the fields
named_more : (k : Kind) (ts : List FieldTree) (n : FieldTree) → is_named k n ≡ false → all_named k (ts ++ (n ∷ [])) ≡ all_named k ts
named_more k ts n off = filter-append (is_named k) ts (n ∷ []) ∙ (let none : all_named k (n ∷ []) ≡ [] = rw off refl in ap (λ (z : List FieldTree). all_named k ts ++ z) none) ∙ append-nil (all_named k ts)

abbrev more_new : (ts : List FieldTree) (x : Fields ts) (n : FieldTree) → is_named kind.Other n ≡ true → NewFields (ts ++ (n ∷ []))
more_new ts x n on =
    let us = ts ++ (n ∷ []) in
    let hops = hops_stay ts us x (named_more kind.MaxForwards ts n (other_kind kind.MaxForwards kind.Other n on refl)) in
    record {
      via_field = x.via_field;
      via = x.via;
      via_first = same_find kind.Via ts us (named_more kind.Via ts n (other_kind kind.Via kind.Other n on refl)) ∙ x.via_first;
      via_reads = x.via_reads;
      hops = x.hops;
      hops_read = hops.0;
      few_hops = hops.1;
      lists = all_append ListReads ts (n ∷ []) x.lists (no_list kind.Other n on refl refl, tt);
    }

pub field_added : (b : List ℕ) (m : Message) (n : FieldTree) → Reads b m → IsResponse m.start → IsFieldTree n → is_named kind.Other n ≡ true → length m.head.fields.items ≤ 127 → length (with_field b (field n)) ≤ 8192 → (w : Message) × HasField b m (field n) (with_field b (field n)) w
field_added b m new r is word on few short =
    let s = spelt b m r in
    let t = s.tree in
    let k = known_by b m s r in
    let ts = t.fields in
    let us = ts ++ (new ∷ []) in
    let u = tree_more t new in
    let c = with_field b (field new) in
    let e = with_field_is b t new s.text s.is in
    let x = renewed ts us k.fields (λ o via hops other. named_more o ts new (other_kind o kind.Other new on other)) (more_new ts k.fields new on) in
    let is_tree : IsMessageTree u = record { skipped = s.is.skipped; start = s.is.start; sip = s.is.sip; fields = all_append IsFieldTree ts (new ∷ []) s.is.fields (word, tt) } in
    let n = (start_place t).to in
    let same_front : take n b ≡ take n c = ap (λ (z : List ℕ). take n z) s.text ∙ front_is t ∙ sym (ap (λ (z : List ℕ). take n z) e ∙ front_is u) in
    let start = subst (λ (z : List ℕ). start_at z (start_place t).from ≡ Some m.start) same_front (start_of_tree b t m.start s.is s.text r.start) in
    let count : length m.head.fields.items ≡ length ts = ap (λ (h : Head). length h.fields.items) s.head ∙ places_length (fields_from t) ts in
    let us_len : length us ≤ 128 = omega (arith, few, count, length-append ts (new ∷ [])) in
    let made = again_with b m t k c t.start us m.start t.body r e is_tree x refl (whole_body b m t k.fields.size r s.text s.head k.end) start (status_fits c us x m.start is) short us_len in
    let w = made.0 in
    let d = made.1.0 in
    let fs = w.head.fields.items in
    let from = length t.skipped in
    let line_b : part b m.head.start ≡ part (take n b) (span from n) = ap (λ (h : Head). part b h.start) s.head ∙ sym (in_front b n from n (omega arith) (omega arith)) in
    let line_c : part c w.head.start ≡ part (take n c) (span from n) = ap (λ (h : Head). part c h.start) d.head ∙ sym (in_front c n from n (omega arith) (omega arith)) in
    let kept : all_named kind.Other (new ∷ []) ≡ new ∷ [] = rw on refl in
    let more : all_named kind.Other us ≡ all_named kind.Other ts ++ (new ∷ []) = filter-append (is_named kind.Other) ts (new ∷ []) ∙ ap (λ (z : List FieldTree). all_named kind.Other ts ++ z) kept in (
      w,
      record {
        reads = d.reads;
        start = d.start;
        start_line = line_c ∙ ap (λ (z : List ℕ). part z (span from n)) (sym same_front) ∙ sym line_b;
        via = via_then (Rattle.sip_laws.proofs.Hops.via_sym k.via) d.via;
        added = texts_stand kind.Other c fs us d.stand ∙ ap fields more ∙ fields_append (all_named kind.Other ts) (new ∷ []) ∙ ap (λ (z : List ℕ). fields (all_named kind.Other ts) ++ z) (append-nil (field new)) ∙ ap (λ (z : List ℕ). z ++ field new) (sym (texts_stand kind.Other b m.head.fields.items ts k.stand));
        others = λ o ne. texts_stand o c fs us d.stand ∙ ap fields (named_more o ts new (other_kind o kind.Other new on ne)) ∙ sym (texts_stand o b m.head.fields.items ts k.stand);
        fields = omega (arith, made_count c u x m.start w d, count, length-append ts (new ∷ []));
        number = sym d.number ∙ k.number;
        cseq_method = sym d.method ∙ k.method;
        to_tag = sym d.tag ∙ k.tag;
        max_forwards = d.hops ∙ sym k.hops;
        body = made.1.1;
      },
    )

pub field_more_reads : (b : List ℕ) (m : Message) (other : List ℕ) (om : Message) (f : HeaderSpan) → Reads b m → IsResponse m.start → Reads other om → Contains om.head.fields.items f → f.kind ≡ kind.Other → length m.head.fields.items ≤ 127 → length (with_field b (part other f.whole)) ≤ 8192
    → (w : Message) × HasField b m (part other f.whole) (with_field b (part other f.whole)) w
field_more_reads b m other om f r is ro inside kind_is few short =
    let k = known other om ro in
    let t = field_in other om.head.fields.items k.tree.fields inside.0 f k.stand k.is.fields inside.1 inside.2 in
    let on : is_named kind.Other t.tree ≡ true = ap (λ (x : Kind). is_same_kind kind.Other x) (sym t.stands.kind ∙ kind_is) in
    let P : List ℕ → Type 0 = λ z. length (with_field b z) ≤ 8192 → (w : Message) × HasField b m z (with_field b z) w in
    let made : P (field t.tree) = λ le. field_added b m t.tree r is t.is on few le in
    subst P (sym t.stands.text) made short
