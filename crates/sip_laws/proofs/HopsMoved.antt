-- What becomes of Max-Forwards in a request that is forwarded, wherever it stands.
use Rattle.std.proofs.Common.{◌≡◌, ◌≢◌, ℕ, ◌+◌, ◌-◌, ◌<◌, ◌≤◌, false, List, [], ◌∷◌, ◌++◌, length, take, refl, sym, ap, ◌∙◌, subst, arith, append_assoc, length-append, Option, Some, None, option_map}
use Rattle.std.specs.Prelude.{codes}
use Rattle.std.specs.Option.{option_or}
use Rattle.std.specs.List.{find, AllByRecursion}
use Rattle.std.specs.Fmt.{decimal}
use Rattle.std.proofs.lemmas.Bool.{ne_eqb, eq-eqb}
use Rattle.std.proofs.lemmas.Option.{same_Some, none-some}
use Rattle.std.proofs.lemmas.List.{append-nil}
use Rattle.std.proofs.lemmas.List.Folds.{find-append}
use Rattle.std.proofs.lemmas.List.Elements.{filter-append}
use Rattle.sip_scan.specs.declared.Head.{Head}
use Rattle.sip_scan.specs.declared.field.HeaderSpan.{HeaderSpan}
use Rattle.sip_scan.specs.declared.field.Kind.{Kind}
use Rattle.sip_scan.specs.declared.field.Kind.TheVariants as kind
use Rattle.sip_scan.specs.Field.{is_same_kind}
use Rattle.sip_scan.specs.Grammar.{crlf, FieldTree, field, IsFieldTree, fields, field_places}
use Rattle.sip_msg.specs.declared.message.Message.{Message}
use Rattle.sip_msg.specs.Fields.{is_of, first}
use Rattle.sip_msg.specs.Values.{hops_at}
use Rattle.msg_edits.specs.declared.parts.Edit.{Edit}
use Rattle.msg_edits.specs.declared.parts.Edit.TheVariants.{Insert}
use Rattle.msg_edits.specs.Edited.{inserted_at, edited_from}
use Rattle.sip_build.specs.Forwarded.{replaced, number_in, one_less, with_hops}
use Rattle.sip_build.proofs.Spelt.{Spelt, fields_from, before_fields, behind_fields, front_length}
use Rattle.sip_build.proofs.Twins.{value_text}
use Rattle.sip_laws.specs.Sent.{hops_left, most_fields}
use Rattle.sip_laws.proofs.Trees.{is_named, all_named, maybe, Fields, ListReads, find_tree, none_tree}
use Rattle.sip_laws.proofs.Hops.{no_list, filter_count}
use Rattle.sip_laws.proofs.Known.{KnownBy}
use Rattle.sip_laws.proofs.Relaying.{all_behind, find_behind, named_behind, named_here, none_named, other_kind}
use Rattle.sip_laws.proofs.Around.{front_text, via_field_place, Around}
use Rattle.sip_laws.proofs.HopsField.{added_hops, is_added, added_reads}
use Rattle.sip_laws.proofs.HopsList.{HoppedList, hopped, unhopped}
use Rattle.sip_laws.proofs.StampedField.{from_first}
use Rattle.sip_laws.proofs.Groups.{QuietAt, quiet_piece}

-- the edits of Max-Forwards
abbrev pub hops_edits : List ℕ → Message → ℕ → List Edit
hops_edits b m absent = with_hops b (first kind.MaxForwards m.head.fields.items) m.max_forwards m.head.body absent

-- the place of the fields behind the first Via, and of the empty line
abbrev pub after_place : (b : List ℕ) (m : Message) → Spelt b m → ℕ
after_place b m s = length (front_text b m s) + length (field s.cut.here)

abbrev pub empty_place : (b : List ℕ) (m : Message) → Spelt b m → ℕ
empty_place b m s = after_place b m s + length (fields s.cut.after)

pub record HopsMoved (b : List ℕ) (m : Message) (s : Spelt b m) (edits : List Edit) (absent : ℕ) (body : List ℕ) : Type 0 where
  pub before : HoppedList edits (fields_from s.tree) s.cut.before
  pub after : HoppedList edits (after_place b m s) s.cut.after
  pub extra : List FieldTree
  pub text : edited_from edits (empty_place b m s) (crlf ++ body) ≡ fields extra ++ (crlf ++ body)
  pub are : AllByRecursion IsFieldTree extra
  pub lists : AllByRecursion ListReads extra
  pub same : (k : Kind) → is_same_kind k kind.MaxForwards ≡ false → all_named k extra ≡ []
  pub low : (k : ℕ) → k < fields_from s.tree → QuietAt edits k
  pub via : (k : ℕ) → length (front_text b m s) ≤ k → k < after_place b m s → QuietAt edits k
  pub high : (k : ℕ) → empty_place b m s + 2 ≤ k → inserted_at edits k ≡ []
  pub hops_read : maybe hops_at (find (is_named kind.MaxForwards) (before.new ++ (after.new ++ extra))) ≡ Some (Some (hops_left m.max_forwards absent))
  pub few : length (all_named kind.MaxForwards before.new) + (length (all_named kind.MaxForwards after.new) + length (all_named kind.MaxForwards extra)) ≤ 1
  pub room : length extra + most_fields m.max_forwards ≤ 127

-- the number that is read
pub record NumberRead (t : FieldTree) (o : Option ℕ) : Type 0 where
  pub number : ℕ
  pub reads : hops_at (value_text t) 0 ≡ Some number
  pub is : o ≡ Some number

number_read : (ts : List FieldTree) (x : Fields ts) (t : FieldTree) → find (is_named kind.MaxForwards) ts ≡ Some t → NumberRead t x.hops
number_read ts x t e = by_value (hops_at (value_text t) 0) refl (ap (maybe hops_at) (sym e) ∙ x.hops_read)
  where
    by_value : (r : Option ℕ) → hops_at (value_text t) 0 ≡ r → option_map Some (hops_at (value_text t) 0) ≡ Some x.hops → NumberRead t x.hops
    by_value None f g = absurd (none-some x.hops (sym (ap (option_map Some) f) ∙ g))
    by_value (Some n) f g = record { number = n; reads = f; is = sym (same_Some (Some n) x.hops (sym (ap (option_map Some) f) ∙ g)) }

-- no Max-Forwards, no number
none_read : (ts : List FieldTree) (x : Fields ts) → find (is_named kind.MaxForwards) ts ≡ None → x.hops ≡ None
none_read ts x e = sym (same_Some None x.hops (ap (maybe hops_at) (sym e) ∙ x.hops_read))

-- the first Max-Forwards stands before or behind the first Via
here_not : (b : List ℕ) (m : Message) (s : Spelt b m) → Around b m s → is_named kind.MaxForwards s.cut.here ≡ false
here_not b m s a = other_kind kind.MaxForwards kind.Via s.cut.here a.named refl

first_is : (b : List ℕ) (m : Message) (s : Spelt b m) → Around b m s → first kind.MaxForwards m.head.fields.items ≡ option_or (find (is_of kind.MaxForwards) (field_places (fields_from s.tree) s.cut.before)) (find (is_of kind.MaxForwards) (field_places (after_place b m s) s.cut.after))
first_is b m s a =
    let ne = named_here kind.MaxForwards (length (front_text b m s)) s.cut.here ∙ here_not b m s a in
    let behind : find (is_of kind.MaxForwards) (via_field_place b m s ∷ field_places (after_place b m s) s.cut.after) ≡ find (is_of kind.MaxForwards) (field_places (after_place b m s) s.cut.after) = rw ne refl in
    ap (λ (z : List HeaderSpan). find (is_of kind.MaxForwards) z) a.items ∙ find-append (is_of kind.MaxForwards) (field_places (fields_from s.tree) s.cut.before) (via_field_place b m s ∷ field_places (after_place b m s) s.cut.after) ∙ ap (λ (o : Option HeaderSpan). option_or (find (is_of kind.MaxForwards) (field_places (fields_from s.tree) s.cut.before)) o) behind

tree_is : (b : List ℕ) (m : Message) (s : Spelt b m) → Around b m s → find (is_named kind.MaxForwards) s.tree.fields ≡ option_or (find (is_named kind.MaxForwards) s.cut.before) (find (is_named kind.MaxForwards) s.cut.after)
tree_is b m s a =
    let ne = here_not b m s a in
    let behind : find (is_named kind.MaxForwards) (s.cut.here ∷ s.cut.after) ≡ find (is_named kind.MaxForwards) s.cut.after = rw ne refl in
    ap (λ (z : List FieldTree). find (is_named kind.MaxForwards) z) s.cut.whole ∙ find-append (is_named kind.MaxForwards) s.cut.before (s.cut.here ∷ s.cut.after) ∙ ap (λ (o : Option FieldTree). option_or (find (is_named kind.MaxForwards) s.cut.before) o) behind

-- how many there were
few_before : (b : List ℕ) (m : Message) (s : Spelt b m) (k : KnownBy b m s.tree) → Around b m s → length (all_named kind.MaxForwards s.cut.before) + length (all_named kind.MaxForwards s.cut.after) ≤ 1
few_before b m s k a =
    let ne = here_not b m s a in
    let off : all_named kind.MaxForwards (s.cut.here ∷ s.cut.after) ≡ all_named kind.MaxForwards s.cut.after = rw ne refl in
    let all : all_named kind.MaxForwards s.tree.fields ≡ all_named kind.MaxForwards s.cut.before ++ all_named kind.MaxForwards s.cut.after = ap (λ (z : List FieldTree). all_named kind.MaxForwards z) s.cut.whole ∙ filter-append (is_named kind.MaxForwards) s.cut.before (s.cut.here ∷ s.cut.after) ∙ ap (λ (z : List FieldTree). all_named kind.MaxForwards s.cut.before ++ z) off in
    let counted = filter_count kind.MaxForwards s.tree.fields in
    let few = k.fields.few_hops in
    omega (arith, ap (λ (z : List FieldTree). length z) all, length-append (all_named kind.MaxForwards s.cut.before) (all_named kind.MaxForwards s.cut.after), counted, few)

-- what the fields are, and where they stand
record Places (b : List ℕ) (m : Message) (s : Spelt b m) : Type 0 where
  before : b ≡ before_fields s.tree ++ (fields s.cut.before ++ (field s.cut.here ++ (fields s.cut.after ++ behind_fields s.tree)))
  after : b ≡ (front_text b m s ++ field s.cut.here) ++ (fields s.cut.after ++ behind_fields s.tree)
  from : fields_from s.tree ≡ length (before_fields s.tree)
  to : after_place b m s ≡ length (front_text b m s ++ field s.cut.here)
  front : length (front_text b m s) ≡ fields_from s.tree + length (fields s.cut.before)

places : (b : List ℕ) (m : Message) (s : Spelt b m) → Around b m s → Places b m s
places b m s a = record {
  before = a.text ∙ append_assoc (before_fields s.tree) (fields s.cut.before) (field s.cut.here ++ (fields s.cut.after ++ behind_fields s.tree));
  after = a.text ∙ sym (append_assoc (front_text b m s) (field s.cut.here) (fields s.cut.after ++ behind_fields s.tree));
  from = front_length s.tree;
  to = sym (length-append (front_text b m s) (field s.cut.here));
  front = sym a.at;
}

both_lists : (P : FieldTree → Type 0) (b : List ℕ) (m : Message) (s : Spelt b m) → AllByRecursion P s.tree.fields → AllByRecursion P s.cut.before × AllByRecursion P s.cut.after
both_lists P b m s h =
    let all = subst (λ (z : List FieldTree). AllByRecursion P z) s.cut.whole h in
    (front_all s.cut.before all, (all_behind P s.cut.before s.cut.here s.cut.after all).1)
  where
    front_all : (xs : List FieldTree) → AllByRecursion P (xs ++ (s.cut.here ∷ s.cut.after)) → AllByRecursion P xs
    front_all [] a = tt
    front_all (x ∷ xs) a = (a.0, front_all xs a.1)

found_before : (k : Kind) (before after : List FieldTree) (t : FieldTree) → find (is_named k) before ≡ Some t → find (is_named k) (before ++ after) ≡ Some t
found_before k before after t e = find-append (is_named k) before after ∙ rw e refl

small_less : (old : ℕ) → old < 256 → old - 1 < 256
small_less old h = omega (arith, h)

nothing_named : (k : Kind) → all_named k [] ≡ []
nothing_named k = refl

less_is : (o : Option ℕ) (absent old : ℕ) → o ≡ Some old → (one_less o ≡ old - 1) × (hops_left o absent ≡ old - 1) × (most_fields o ≡ 127)
less_is None absent old e = absurd (none-some old e)
less_is (Some h) absent old e = let same = same_Some h old e in (ap (λ (x : ℕ). x - 1) same, ap (λ (x : ℕ). x - 1) same, refl)

-- where Max-Forwards stands before the first Via
in_before : (b : List ℕ) (m : Message) (s : Spelt b m) (k : KnownBy b m s.tree) (a : Around b m s) (absent : ℕ) (body : List ℕ) (f : HeaderSpan) → find (is_of kind.MaxForwards) (field_places (fields_from s.tree) s.cut.before) ≡ Some f → HopsMoved b m s (hops_edits b m absent) absent body
in_before b m s k a absent body f is =
    let at_first : first kind.MaxForwards m.head.fields.items ≡ Some f = first_is b m s a ∙ rw is refl in
    let tree = find_tree kind.MaxForwards b m.head.fields.items s.tree.fields f k.stand at_first in
    let n = number_read s.tree.fields k.fields tree.0 tree.1 in
    let less = less_is m.max_forwards absent n.number (k.hops ∙ n.is) in
    let p = places b m s a in
    let are = both_lists IsFieldTree b m s k.is.fields in
    let lists = both_lists ListReads b m s k.fields.lists in
    let number : (t : FieldTree) → find (is_named kind.MaxForwards) s.cut.before ≡ Some t → hops_at (value_text t) 0 ≡ Some n.number = λ t e.
    let same : tree.0 ≡ t = same_Some tree.0 t (sym tree.1 ∙ tree_is b m s a ∙ rw e refl) in
    subst (λ (x : FieldTree). hops_at (value_text x) 0 ≡ Some n.number) same n.reads in
    let h = hopped b (before_fields s.tree) (field s.cut.here ++ (fields s.cut.after ++ behind_fields s.tree)) (fields_from s.tree) s.cut.before f n.number (n.number - 1) p.from p.before are.0 lists.0 is number (small_less n.number) in
    let one : hops_edits b m absent ≡ replaced (number_in (take f.value.to b) f.value.from) (decimal (n.number - 1)) = ap (λ (o : Option HeaderSpan). with_hops b o m.max_forwards m.head.body absent) at_first ∙ ap (λ (x : ℕ). replaced (number_in (take f.value.to b) f.value.from) (decimal x)) less.0 in
    let left = less.1 in
    let room = less.2 in
    let made : HopsMoved b m s (replaced (number_in (take f.value.to b) f.value.from) (decimal (n.number - 1))) absent body = record {
      before = h.list;
      after = unhopped _ (after_place b m s) s.cut.after (λ j low high. h.high j (omega (arith, low, p.front))) are.1 lists.1;
      extra = [];
      text = quiet_piece _ (empty_place b m s) (crlf ++ body) (λ j low high. h.high j (omega (arith, low, p.front)));
      are = tt;
      lists = tt;
      same = λ j ne. nothing_named j;
      low = h.low;
      via = λ j low high. h.high j (omega (arith, low, p.front));
      high = λ j le. (h.high j (omega (arith, le, p.front))).put;
      hops_read = ap (maybe hops_at) (found_before kind.MaxForwards h.list.new (s.cut.after ++ []) h.field h.is_first) ∙ ap (λ (o : Option ℕ). option_map Some o) h.reads ∙ ap (λ (x : ℕ). Some (Some x)) (sym left);
      few = omega (arith, h.list.number, few_before b m s k a);
      room = omega (arith, room);
    } in
    subst (λ (es : List Edit). HopsMoved b m s es absent body) (sym one) made

-- where it stands behind it
in_after : (b : List ℕ) (m : Message) (s : Spelt b m) (k : KnownBy b m s.tree) (a : Around b m s) (absent : ℕ) (body : List ℕ) (f : HeaderSpan) → find (is_of kind.MaxForwards) (field_places (fields_from s.tree) s.cut.before) ≡ None → find (is_of kind.MaxForwards) (field_places (after_place b m s) s.cut.after) ≡ Some f → HopsMoved b m s (hops_edits b m absent) absent body
in_after b m s k a absent body f none is =
    let at_first : first kind.MaxForwards m.head.fields.items ≡ Some f = first_is b m s a ∙ rw (none, is) refl in
    let none_before = none_named kind.MaxForwards (fields_from s.tree) s.cut.before none in
    let tree = find_tree kind.MaxForwards b m.head.fields.items s.tree.fields f k.stand at_first in
    let n = number_read s.tree.fields k.fields tree.0 tree.1 in
    let less = less_is m.max_forwards absent n.number (k.hops ∙ n.is) in
    let p = places b m s a in
    let are = both_lists IsFieldTree b m s k.is.fields in
    let lists = both_lists ListReads b m s k.fields.lists in
    let number : (t : FieldTree) → find (is_named kind.MaxForwards) s.cut.after ≡ Some t → hops_at (value_text t) 0 ≡ Some n.number = λ t e.
    let same : tree.0 ≡ t = same_Some tree.0 t (sym tree.1 ∙ tree_is b m s a ∙ rw (none_before, e) refl) in
    subst (λ (x : FieldTree). hops_at (value_text x) 0 ≡ Some n.number) same n.reads in
    let h = hopped b (front_text b m s ++ field s.cut.here) (behind_fields s.tree) (after_place b m s) s.cut.after f n.number (n.number - 1) p.to p.after are.1 lists.1 is number (small_less n.number) in
    let one : hops_edits b m absent ≡ replaced (number_in (take f.value.to b) f.value.from) (decimal (n.number - 1)) = ap (λ (o : Option HeaderSpan). with_hops b o m.max_forwards m.head.body absent) at_first ∙ ap (λ (x : ℕ). replaced (number_in (take f.value.to b) f.value.from) (decimal x)) less.0 in
    let left = less.1 in
    let room = less.2 in
    let made : HopsMoved b m s (replaced (number_in (take f.value.to b) f.value.from) (decimal (n.number - 1))) absent body = record {
      before = unhopped _ (fields_from s.tree) s.cut.before (λ j low high. h.low j (omega (arith, high, p.front))) are.0 lists.0;
      after = h.list;
      extra = [];
      text = quiet_piece _ (empty_place b m s) (crlf ++ body) (λ j low high. h.high j (omega (arith, low)));
      are = tt;
      lists = tt;
      same = λ j ne. nothing_named j;
      low = λ j lt. h.low j (omega (arith, lt, p.front));
      via = λ j low high. h.low j high;
      high = λ j le. (h.high j (omega (arith, le))).put;
      hops_read = ap (maybe hops_at) (find_behind kind.MaxForwards s.cut.before (h.list.new ++ []) none_before ∙ found_before kind.MaxForwards h.list.new [] h.field h.is_first) ∙ ap (λ (o : Option ℕ). option_map Some o) h.reads ∙ ap (λ (x : ℕ). Some (Some x)) (sym left);
      few = omega (arith, h.list.number, few_before b m s k a);
      room = omega (arith, room);
    } in
    subst (λ (es : List Edit). HopsMoved b m s es absent body) (sym one) made

-- an insert alone
insert_elsewhere : (place : ℕ) (text : List ℕ) (k : ℕ) → place ≢ k → QuietAt (Insert place text ∷ []) k
insert_elsewhere place text k ne = record { cut = refl; put = let off = ne_eqb place k ne in rw off refl }

insert_here : (place : ℕ) (text bytes : List ℕ) → 0 < length bytes → edited_from (Insert place text ∷ []) place bytes ≡ text ++ bytes
insert_here place text bytes some =
    let on = eq-eqb place place refl in
    let put : inserted_at (Insert place text ∷ []) place ≡ text = rw on (append-nil text) in
    from_first (Insert place text ∷ []) place bytes some (λ k low high. refl) (λ k low high. (insert_elsewhere place text k (λ e. omega (arith, e, low))).put) ∙ ap (λ (z : List ℕ). z ++ bytes) put

none_is : (o : Option ℕ) (absent : ℕ) → o ≡ None → (hops_left o absent ≡ absent) × (most_fields o ≡ 126)
none_is None absent e = (refl, refl)
none_is (Some h) absent e = absurd (none-some h (sym e))

added_text : (n : ℕ) → codes "Max-Forwards" ++ (58 ∷ ((32 ∷ decimal n) ++ crlf)) ≡ codes "Max-Forwards: " ++ (decimal n ++ codes "\r\n")
added_text n = refl

-- where it is absent
not_there : (b : List ℕ) (m : Message) (s : Spelt b m) (k : KnownBy b m s.tree) (a : Around b m s) (absent : ℕ) (small : absent < 256) (body : List ℕ) → find (is_of kind.MaxForwards) (field_places (fields_from s.tree) s.cut.before) ≡ None → find (is_of kind.MaxForwards) (field_places (after_place b m s) s.cut.after) ≡ None → HopsMoved b m s (hops_edits b m absent) absent body
not_there b m s k a absent small body none_1 none_2 =
    let at_first : first kind.MaxForwards m.head.fields.items ≡ None = first_is b m s a ∙ rw (none_1, none_2) refl in
    let none_before = none_named kind.MaxForwards (fields_from s.tree) s.cut.before none_1 in
    let none_after = none_named kind.MaxForwards (after_place b m s) s.cut.after none_2 in
    let none = none_is m.max_forwards absent (k.hops ∙ none_read s.tree.fields k.fields (none_tree kind.MaxForwards b m.head.fields.items s.tree.fields k.stand at_first)) in
    let p = places b m s a in
    let are = both_lists IsFieldTree b m s k.is.fields in
    let lists = both_lists ListReads b m s k.fields.lists in
    let new = added_hops absent small in
    let w = is_added absent small in
    let tag = w.tag in
    let place = m.head.body - 2 in
    let body_is : m.head.body ≡ fields_from s.tree + length (fields s.tree.fields) + 2 = ap (λ (h : Head). h.body) k.head in
    let at : place ≡ empty_place b m s = omega (arith, body_is, a.sizes, p.front) in
    let text = codes "Max-Forwards: " ++ (decimal absent ++ codes "\r\n") in
    let edits = Insert place text ∷ [] in
    let one : hops_edits b m absent ≡ edits = ap (λ (o : Option HeaderSpan). with_hops b o m.max_forwards m.head.body absent) at_first in
    let field_is : field new ≡ text = w.text ∙ added_text absent in
    let left = none.0 in
    let room = none.1 in
    let no_1 : all_named kind.MaxForwards s.cut.before ≡ [] = sym (append-nil _) ∙ none_all s.cut.before none_before in
    let no_2 : all_named kind.MaxForwards s.cut.after ≡ [] = sym (append-nil _) ∙ none_all s.cut.after none_after in
    let kept : all_named kind.MaxForwards (new ∷ []) ≡ new ∷ [] = rw tag refl in
    let found : find (is_named kind.MaxForwards) (new ∷ []) ≡ Some new = rw tag refl in
    let made : HopsMoved b m s edits absent body = record {
      before = unhopped edits (fields_from s.tree) s.cut.before (λ j low high. insert_elsewhere place text j (λ e. omega (arith, e, at, high, p.front))) are.0 lists.0;
      after = unhopped edits (after_place b m s) s.cut.after (λ j low high. insert_elsewhere place text j (λ e. omega (arith, e, at, high))) are.1 lists.1;
      extra = new ∷ [];
      text = ap (λ (i : ℕ). edited_from edits i (crlf ++ body)) (sym at) ∙ insert_here place text (crlf ++ body) (omega arith) ∙ ap (λ (z : List ℕ). z ++ (crlf ++ body)) (sym (append-nil (field new) ∙ field_is));
      are = (w.is, tt);
      lists = (no_list kind.MaxForwards new tag refl refl, tt);
      same = λ j ne. let off = other_kind j kind.MaxForwards new tag ne in rw off refl;
      low = λ j lt. insert_elsewhere place text j (λ e. omega (arith, e, at, lt, p.front));
      via = λ j low high. insert_elsewhere place text j (λ e. omega (arith, e, at, high));
      high = λ j le. (insert_elsewhere place text j (λ e. omega (arith, e, at, le))).put;
      hops_read = ap (maybe hops_at) (find_behind kind.MaxForwards s.cut.before (s.cut.after ++ (new ∷ [])) none_before ∙ find_behind kind.MaxForwards s.cut.after (new ∷ []) none_after ∙ found) ∙ ap (λ (o : Option ℕ). option_map Some o) (added_reads absent small) ∙ ap (λ (x : ℕ). Some (Some x)) (sym left);
      few = omega (arith, ap (λ (z : List FieldTree). length z) no_1, ap (λ (z : List FieldTree). length z) no_2, ap (λ (z : List FieldTree). length z) kept);
      room = omega (arith, room);
    } in
    subst (λ (es : List Edit). HopsMoved b m s es absent body) (sym one) made
  where
    none_all : (xs : List FieldTree) → find (is_named kind.MaxForwards) xs ≡ None → all_named kind.MaxForwards xs ++ [] ≡ []
    none_all xs e = sym (filter-append (is_named kind.MaxForwards) xs []) ∙ named_behind kind.MaxForwards xs [] e

pub hops_moved : (b : List ℕ) (m : Message) (s : Spelt b m) (k : KnownBy b m s.tree) (a : Around b m s) (absent : ℕ) (small : absent < 256) (body : List ℕ) → HopsMoved b m s (hops_edits b m absent) absent body
hops_moved b m s k a absent small body = by_first (find (is_of kind.MaxForwards) (field_places (fields_from s.tree) s.cut.before)) (find (is_of kind.MaxForwards) (field_places (after_place b m s) s.cut.after)) refl refl
  where
    by_first : (x y : Option HeaderSpan) → find (is_of kind.MaxForwards) (field_places (fields_from s.tree) s.cut.before) ≡ x → find (is_of kind.MaxForwards) (field_places (after_place b m s) s.cut.after) ≡ y → HopsMoved b m s (hops_edits b m absent) absent body
    by_first (Some f) y e g = in_before b m s k a absent body f e
    by_first None (Some f) e g = in_after b m s k a absent body f e g
    by_first None None e g = not_there b m s k a absent small body e g
