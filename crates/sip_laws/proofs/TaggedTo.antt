-- To with a tag behind its value.
use Rattle.std.proofs.Common.{◌≡◌, ℕ, ◌+◌, true, List, [], ◌∷◌, ◌++◌, length, take, drop, refl, sym, ap, ◌∙◌, subst, arith, append_assoc, length-append, Some, None, inl, inr}
use Rattle.std.specs.Prelude.{codes, is_none, slice_range}
use Rattle.std.specs.List.{AllByRecursion}
use Rattle.std.specs.Str.{str_eq_ignore_ascii_case}
use Rattle.std.proofs.lemmas.Bool.{cases_Bool}
use Rattle.std.proofs.lemmas.Option.{same_Some, none-some}
use Rattle.std.proofs.lemmas.List.{append-nil, drop_at}
use Rattle.std.proofs.lemmas.List.Concat.{flat_map-append}
use Rattle.sip_words.specs.Bytes.{has}
use Rattle.sip_words.specs.declared.bytes.Class.TheVariants as class
use Rattle.sip_words.specs.declared.separators.Surroundings.TheVariants.{Field}
use Rattle.sip_words.specs.Grammar.{lws, Bare, IsWord, ParamTree, param, IsParam, params, named_tree}
use Rattle.sip_words.proofs.Pieces.{behind, part_is}
use Rattle.sip_fields.specs.declared.name_addr.NameAddr.{NameAddr}
use Rattle.sip_fields.specs.Parts.{Tail, Last, More, tail, next_place}
use Rattle.sip_fields.specs.NameAddr.{name_addr_at}
use Rattle.sip_fields.specs.NameAddrGrammar.{AddressTree, Bracketed, Plain, address, IsAddress, display, NameAddrTree, name_addr, IsNameAddr, name_addr_place}
use Rattle.sip_fields.specs.UriGrammar.{absolute}
use Rattle.sip_fields.proofs.NameAddrLaw.{name_addr_again, name_addr_takes}
use Rattle.sip_scan.specs.declared.field.HeaderSpan.{HeaderSpan}
use Rattle.sip_scan.specs.Grammar.{crlf, FieldTree, field, IsFieldTree, field_place}
use Rattle.sip_build.proofs.Twins.{value_text, behind_colon, field_value}
use Rattle.sip_laws.specs.Sent.{bytes_at}
use Rattle.sip_laws.proofs.Folded.{Folded, EndsWell, folded_both, folded_line, folded_lws, cut_folded, behind_is}
use Rattle.sip_laws.proofs.Endings.{ends_all, ends_behind, ends_lws, ends_params}
use Rattle.sip_laws.proofs.Shift.{tree_value, tag_says}
use Rattle.sip_laws.proofs.Trees.{only_name}
use Rattle.sip_scan.specs.Grammar.{IsLine}

ends_address : (a : AddressTree) → IsAddress a → EndsWell (address a)
unfolding has
ends_address (Bracketed d u) is = ends_behind (display d) 60 (absolute u ++ 62 ∷ []) (ends_behind (60 ∷ absolute u) 62 [] refl)
ends_address (Plain u) is = ends_all class.Bare refl refl (absolute u) is.bytes

tag_param : List ℕ → ParamTree
tag_param w = record { semicolon = record { before = []; after = [] }; name = codes "tag"; value = Some (Bare w) }

with_tag : NameAddrTree → List ℕ → NameAddrTree
with_tag t w = record { lead = t.lead; address = t.address; params = t.params ++ tag_param w ∷ []; tail = t.tail }

all_one_more : (ps : List ParamTree) (p : ParamTree) → AllByRecursion (IsParam Field) ps → IsParam Field p → AllByRecursion (IsParam Field) (ps ++ p ∷ [])
all_one_more [] p a is = (is, tt)
all_one_more (q ∷ ps) p a is = (a.0, all_one_more ps p a.1 is)

is_tag_param : (w : List ℕ) → IsWord class.Value w → IsParam Field (tag_param w)
unfolding tag_param has
is_tag_param w word = record { semicolon = record { before = tt; after = tt }; name = record { some = omega arith; all = (refl, (refl, (refl, tt))) }; value = word }

named_last : (name : List ℕ) (ps : List ParamTree) (p : ParamTree) → named_tree name ps ≡ None → str_eq_ignore_ascii_case p.name name ≡ true → named_tree name (ps ++ p ∷ []) ≡ Some p
named_last name [] p none on = rw on refl
named_last name (q ∷ ps) p none on = elim (cases_Bool (str_eq_ignore_ascii_case q.name name)) [ inl y ↦ absurd (none-some q (sym (rw y at none))) | inr n ↦ rw n (named_last name ps p (rw n at none) on) ]

-- the text of the tagged value
abbrev pub front_of : NameAddrTree → List ℕ
front_of t = lws t.lead ++ (address t.address ++ params t.params)

in_front : (a b c d : List ℕ) → a ++ (b ++ (c ++ d)) ≡ (a ++ (b ++ c)) ++ d
in_front a b c d = simp append_assoc

tagged_pieces : (a b c w d : List ℕ) → a ++ (b ++ ((c ++ w) ++ d)) ≡ (a ++ (b ++ c)) ++ (w ++ d)
tagged_pieces a b c w d = simp append_assoc

with_tag_text : (t : NameAddrTree) (w : List ℕ) → name_addr (with_tag t w) ≡ front_of t ++ ((codes ";tag=" ++ w) ++ tail t.tail)
unfolding with_tag tag_param
with_tag_text t w =
    let p : ParamTree = tag_param w in
    let all : params (t.params ++ p ∷ []) ≡ params t.params ++ (codes ";tag=" ++ w) = flat_map-append param t.params (p ∷ []) ∙ ap (λ (x : List ℕ). params t.params ++ x) (append-nil (codes ";tag=" ++ w)) in
    ap (λ (x : List ℕ). lws t.lead ++ (address t.address ++ (x ++ tail t.tail))) all ∙ tagged_pieces (lws t.lead) (address t.address) (params t.params) (codes ";tag=" ++ w) (tail t.tail)

is_with_tag : (t : NameAddrTree) (w : List ℕ) → IsNameAddr t → IsWord class.Value w → IsNameAddr (with_tag t w)
unfolding with_tag
is_with_tag t w is word = record { address = is.address; params = all_one_more t.params (tag_param w) is.params (is_tag_param w word); tail = is.tail }

none_next : (i j : ℕ) (t : Tail) → is_none (next_place i t) ≡ true → is_none (next_place j t) ≡ true
none_next i j (Last bs) h = refl
none_next i j (More m rest) h = absurd (cc)

-- a value that is tagged
pub record TaggedValue (t : NameAddrTree) (w : List ℕ) : Type 0 where
  pub folded : Folded (front_of t ++ ((codes ";tag=" ++ w) ++ tail t.tail))
  pub name : NameAddr
  pub reads : only_name (front_of t ++ ((codes ";tag=" ++ w) ++ tail t.tail)) ≡ Some name
  pub tag : named_tree (codes "tag") t.params ≡ None → bytes_at (front_of t ++ ((codes ";tag=" ++ w) ++ tail t.tail)) name.tag ≡ Some w

place_next : (t : NameAddrTree) (w : List ℕ) (i : ℕ) → is_none (name_addr_place i t).next ≡ true → is_none (name_addr_place 0 (with_tag t w)).next ≡ true
unfolding with_tag
place_next t w i h = none_next _ _ t.tail h

place_tag : (t : NameAddrTree) (w : List ℕ) → named_tree (codes "tag") t.params ≡ None → tree_value (named_tree (codes "tag") (with_tag t w).params) ≡ Some w
unfolding with_tag tag_param
place_tag t w none = let e = named_last (codes "tag") t.params (tag_param w) none refl in ap tree_value e

pub tagged_value : (t : NameAddrTree) (w : List ℕ) (i : ℕ) → IsNameAddr t → Folded (name_addr t) → is_none (name_addr_place i t).next ≡ true → IsWord class.Value w → IsLine w → TaggedValue t w
unfolding only_name
tagged_value t w i is f last word line =
    let u = with_tag t w in
    let text = front_of t ++ ((codes ";tag=" ++ w) ++ tail t.tail) in
    let spelled : text ≡ name_addr u = sym (with_tag_text t w) in
    let reads = name_addr_again text 0 u (omega arith) spelled (is_with_tag t w is word) in
    let end = place_next t w i last in
    let one = cut_folded (lws t.lead) (address t.address ++ (params t.params ++ tail t.tail)) (ends_lws [] tt t.lead) f in
    let two = cut_folded (address t.address ++ params t.params) (tail t.tail) (ends_params (address t.address) (ends_address t.address is.address) t.params is.params) (subst Folded (sym (append_assoc (address t.address) (params t.params) (tail t.tail))) one.back) in
    record {
      folded = folded_both (folded_both (folded_lws t.lead) two.front) (folded_both (folded_line (codes ";tag=" ++ w) (refl, (refl, (refl, (refl, (refl, line)))))) two.back);
      name = name_addr_place 0 u;
      reads = rw (reads, end) refl;
      tag = λ none. tag_says text 0 u spelled ∙ place_tag t w none;
    }

-- where the value ends in the text
pub record ToSpelt (b : List ℕ) (f : HeaderSpan) (n : NameAddr) (here : FieldTree) : Type 0 where
  pub tree : NameAddrTree
  pub is : IsNameAddr tree
  pub value : value_text here ≡ name_addr tree
  pub before : slice_range b f.whole.from n.whole.to ≡ (here.name ++ (here.gap ++ (58 ∷ []))) ++ front_of tree
  pub after : slice_range b n.whole.to f.whole.to ≡ tail tree.tail ++ crlf
  pub there : drop f.value.from (take f.value.to b) ≡ name_addr tree
  pub place : name_addr_place f.value.from tree ≡ n

six : (nm gap v c : List ℕ) → nm ++ (gap ++ (58 ∷ (v ++ c))) ≡ (nm ++ (gap ++ (58 ∷ []))) ++ (v ++ c)
six nm gap v c = simp append_assoc

seven : (h fr t c be : List ℕ) → (h ++ ((fr ++ t) ++ c)) ++ be ≡ (h ++ fr) ++ ((t ++ c) ++ be)
seven h fr t c be = simp append_assoc

pub to_spelt : (b front rest : List ℕ) (here : FieldTree) (n : NameAddr) → b ≡ front ++ (field here ++ rest) → IsFieldTree here → let f = field_place (length front) here in name_addr_at (take f.value.to b) f.value.from ≡ Some n → ToSpelt b f n here
unfolding behind_colon
to_spelt b front rest here n e is reads =
    let q = length front in
    let f = field_place q here in
    let v = field_value b front rest here e in
    let s = name_addr_takes (take f.value.to b) f.value.from n reads in
    let t = s.0 in
    let value : value_text here ≡ name_addr t = sym v.0 ∙ s.2 in
    let place = same_Some (name_addr_place f.value.from t) n (sym (name_addr_again (take f.value.to b) f.value.from t v.1 s.2 s.1) ∙ reads) in
    let h = here.name ++ (here.gap ++ (58 ∷ [])) in
    let a = h ++ front_of t in
    let z = tail t.tail ++ crlf in
    let spelled : field here ≡ h ++ ((front_of t ++ tail t.tail) ++ crlf) = ap (λ (x : List ℕ). here.name ++ (here.gap ++ (58 ∷ x))) (behind_is here is ∙ ap (λ (x : List ℕ). x ++ crlf) (value ∙ in_front (lws t.lead) (address t.address) (params t.params) (tail t.tail))) ∙ six here.name here.gap (front_of t ++ tail t.tail) crlf in
    let at : drop q b ≡ a ++ (z ++ rest) = ap (λ (x : List ℕ). drop q x) e ∙ drop_at front (field here ++ rest) q refl ∙ ap (λ (x : List ℕ). x ++ rest) spelled ∙ seven h (front_of t) (tail t.tail) crlf rest in
    let size : length (field here) ≡ length a + length z = ap (λ (x : List ℕ). length x) (spelled ∙ sym (append-nil _) ∙ seven h (front_of t) (tail t.tail) crlf [] ∙ ap (λ (x : List ℕ). a ++ x) (append-nil z)) ∙ length-append a z in
    let head_len : length h ≡ length here.name + (length here.gap + 1) = omega (arith, length-append here.name (here.gap ++ (58 ∷ [])), length-append here.gap (58 ∷ [])) in
    let front_len : length (front_of t) ≡ length (lws t.lead) + (length (address t.address) + length (params t.params)) = omega (arith, length-append (lws t.lead) (address t.address ++ params t.params), length-append (address t.address) (params t.params)) in
    let a_len : length a ≡ length h + length (front_of t) = length-append h (front_of t) in
    let stop : n.whole.to ≡ q + length a = sym (ap (λ (x : NameAddr). x.whole.to) place) ∙ omega (arith, head_len, front_len, a_len) in
    let end : f.whole.to ≡ q + length a + length z = omega (arith, size) in
    let behind_a = behind b q a (z ++ rest) at in
    record {
      tree = t;
      is = s.1;
      value = value;
      before = ap (λ (x : ℕ). slice_range b q x) stop ∙ part_is b q a (z ++ rest) at;
      after = ap (λ (x : ℕ). slice_range b x f.whole.to) stop ∙ ap (λ (x : ℕ). slice_range b (q + length a) x) end ∙ part_is b (q + length a) z rest behind_a;
      there = s.2;
      place = place;
    }
