-- Fields as trees: what is read of the value of a field, wherever the field stands.
use Rattle.std.proofs.Common.{◌≡◌, ℕ, zero, suc, ◌+◌, ◌-◌, ◌<◌, ◌≤◌, Bool, true, List, [], ◌∷◌, ◌++◌, length, take, drop, refl, sym, ap, ◌∙◌, subst, arith, append_assoc, length-append, length-take, length-drop, Option, Some, None, option_map, inl, inr}
use Rattle.std.specs.Prelude.{cond, IfSome, is_none, if◌then◌else◌}
use Rattle.std.specs.List.{find, count_by, flat_map, filter, list_all, AllByRecursion}
use Rattle.std.proofs.lemmas.Bool.{cases_Bool}
use Rattle.std.proofs.lemmas.Option.{same_Some, none-some}
use Rattle.std.proofs.lemmas.List.{drop_at}
use Rattle.std.proofs.lemmas.List.Sums.{sum_by-cons}
use Rattle.sip_words.specs.Words.{◌>>=◌}
use Rattle.sip_words.specs.declared.Span.{Span}
use Rattle.sip_words.proofs.Steps.{bind_some}
use Rattle.sip_words.proofs.Pieces.{part_is}
use Rattle.sip_words.proofs.Lies.{ends_text}
use Rattle.sip_fields.specs.declared.via.Via.{Via}
use Rattle.sip_fields.specs.declared.name_addr.NameAddr.{NameAddr}
use Rattle.sip_fields.specs.declared.cseq.CSeq.{CSeq}
use Rattle.sip_fields.specs.Via.{via_at}
use Rattle.sip_fields.specs.NameAddr.{name_addr_at, route_at}
use Rattle.sip_fields.specs.NameAddrGrammar.{name_addr, name_addr_place}
use Rattle.sip_fields.specs.CSeq.{cseq_at}
use Rattle.sip_fields.proofs.NameAddrLaw.{route_value_again, route_value_takes}
use Rattle.sip_fields.proofs.Lies.{via_between, name_addr_lies}
use Rattle.sip_scan.specs.declared.field.HeaderSpan.{HeaderSpan}
use Rattle.sip_scan.specs.declared.field.Kind.{Kind}
use Rattle.sip_scan.specs.declared.field.Kind.TheVariants as kind
use Rattle.sip_scan.specs.Field.{is_same_kind, kind_of}
use Rattle.sip_scan.specs.Grammar.{FieldTree, field, field_place, fields, field_places}
use Rattle.sip_msg.specs.Fields.{is_of, first, count}
use Rattle.sip_msg.specs.Values.{whole_number, hops_at, call_id_at, next_via, next_route, next_value, rest_reads, values_read, list_reads}
use Rattle.sip_build.specs.Parts.{part, field_text}
use Rattle.sip_build.proofs.ReadTwins.{Alike, values_alike}
use Rattle.sip_build.proofs.Twins.{value_text, field_value}

abbrev pub is_named : Kind → FieldTree → Bool
is_named k t = is_same_kind k (kind_of t.name)

-- the field of the text c is spelled by the tree
pub record Stands (c : List ℕ) (f : HeaderSpan) (t : FieldTree) : Type 0 where
  pub kind : f.kind ≡ kind_of t.name
  pub here : Alike (take f.value.to c) f.value.from (value_text t) 0
  pub back : Alike (value_text t) 0 (take f.value.to c) f.value.from
  pub text : part c f.whole ≡ field t

abbrev pub AllStand : List ℕ → List HeaderSpan → List FieldTree → Type 0
AllStand c [] [] = Unit {0}
AllStand c [] (t ∷ ts) = ⊥
AllStand c (f ∷ fs) [] = ⊥
AllStand c (f ∷ fs) (t ∷ ts) = Stands c f t × AllStand c fs ts

one_stands : (c pre rest : List ℕ) (t : FieldTree) → c ≡ pre ++ (field t ++ rest) → Stands c (field_place (length pre) t) t
one_stands c pre rest t e =
    let v = field_value c pre rest t e in
    let at : drop (length pre) c ≡ field t ++ rest = ap (λ (x : List ℕ). drop (length pre) x) e ∙ drop_at pre (field t ++ rest) (length pre) refl in
    record {
      kind = refl;
      here = record { bytes = v.0; left = v.1; right = omega arith };
      back = record { bytes = sym v.0; left = omega arith; right = v.1 };
      text = part_is c (length pre) (field t) rest at;
    }

along : (pre one others rest : List ℕ) → pre ++ ((one ++ others) ++ rest) ≡ (pre ++ one) ++ (others ++ rest)
along pre one others rest = simp append_assoc

beside : (pre one others rest : List ℕ) → pre ++ ((one ++ others) ++ rest) ≡ pre ++ (one ++ (others ++ rest))
beside pre one others rest = simp append_assoc

pub all_stand : (c pre rest : List ℕ) (i : ℕ) (ts : List FieldTree) → i ≡ length pre → c ≡ pre ++ (fields ts ++ rest) → AllStand c (field_places i ts) ts
all_stand c pre rest i [] n e = tt
all_stand c pre rest i (t ∷ ts) n e = (
  subst (λ (k : ℕ). Stands c (field_place k t) t) (sym n) (one_stands c pre (fields ts ++ rest) t (e ∙ beside pre (field t) (fields ts) rest)),
  all_stand c (pre ++ field t) rest (i + length (field t)) ts (omega (arith, length-append pre (field t))) (e ∙ along pre (field t) (fields ts) rest),
)

test_is : (k : Kind) (c : List ℕ) (f : HeaderSpan) (t : FieldTree) → Stands c f t → is_of k f ≡ is_named k t
unfolding is_of
test_is k c f t h = ap (λ (o : Kind). is_same_kind k o) h.kind

-- the first field of a kind and its tree
pub find_stands : (k : Kind) (c : List ℕ) (fs : List HeaderSpan) (ts : List FieldTree) (t : FieldTree) → AllStand c fs ts → find (is_named k) ts ≡ Some t → (f : HeaderSpan) × (first k fs ≡ Some f) × Stands c f t
find_stands k c [] [] t h e = absurd (none-some t e)
find_stands k c [] (u ∷ ts) t h e = absurd h
find_stands k c (f ∷ fs) [] t h e = absurd h
find_stands k c (f ∷ fs) (u ∷ ts) t h e = elim (cases_Bool (is_named k u)) [
  | inl y ↦ let test = test_is k c f u h.0 ∙ y in (f, rw test refl, subst (λ (x : FieldTree). Stands c f x) (same_Some u t (rw y at e)) h.0)
  | inr n ↦ let test = test_is k c f u h.0 ∙ n in let later = find_stands k c fs ts t h.1 (rw n at e) in (later.0, rw test later.1, later.2)
]

pub find_tree : (k : Kind) (c : List ℕ) (fs : List HeaderSpan) (ts : List FieldTree) (f : HeaderSpan) → AllStand c fs ts → first k fs ≡ Some f → (t : FieldTree) × (find (is_named k) ts ≡ Some t) × Stands c f t
find_tree k c [] [] f h e = absurd (none-some f e)
find_tree k c [] (u ∷ ts) f h e = absurd h
find_tree k c (g ∷ fs) [] f h e = absurd h
find_tree k c (g ∷ fs) (u ∷ ts) f h e = elim (cases_Bool (is_named k u)) [
  | inl y ↦ let test = test_is k c g u h.0 ∙ y in (u, rw y refl, subst (λ (x : HeaderSpan). Stands c x u) (same_Some g f (rw test at e)) h.0)
  | inr n ↦ let test = test_is k c g u h.0 ∙ n in let later = find_tree k c fs ts f h.1 (rw test at e) in (later.0, rw n later.1, later.2)
]

pub none_stands : (k : Kind) (c : List ℕ) (fs : List HeaderSpan) (ts : List FieldTree) → AllStand c fs ts → find (is_named k) ts ≡ None → first k fs ≡ None
none_stands k c [] [] h e = refl
none_stands k c [] (u ∷ ts) h e = absurd h
none_stands k c (f ∷ fs) [] h e = absurd h
none_stands k c (f ∷ fs) (u ∷ ts) h e = elim (cases_Bool (is_named k u)) [
  | inl y ↦ absurd (none-some u (sym (rw y at e)))
  | inr n ↦ let test = test_is k c f u h.0 ∙ n in rw test (none_stands k c fs ts h.1 (rw n at e))
]

pub none_tree : (k : Kind) (c : List ℕ) (fs : List HeaderSpan) (ts : List FieldTree) → AllStand c fs ts → first k fs ≡ None → find (is_named k) ts ≡ None
none_tree k c [] [] h e = refl
none_tree k c [] (u ∷ ts) h e = absurd h
none_tree k c (f ∷ fs) [] h e = absurd h
none_tree k c (f ∷ fs) (u ∷ ts) h e = elim (cases_Bool (is_named k u)) [
  | inl y ↦ let test = test_is k c f u h.0 ∙ y in absurd (none-some f (sym (rw test at e)))
  | inr n ↦ let test = test_is k c f u h.0 ∙ n in rw n (none_tree k c fs ts h.1 (rw test at e))
]

-- a field's text
pub text_stands : (k : Kind) (c : List ℕ) (fs : List HeaderSpan) (ts : List FieldTree) (t : FieldTree) → AllStand c fs ts → find (is_named k) ts ≡ Some t → field_text c (first k fs) ≡ field t
text_stands k c fs ts t h e = let f = find_stands k c fs ts t h e in rw f.1 f.2.text

-- the texts of all fields of a kind
abbrev pub all_named : Kind → List FieldTree → List FieldTree
all_named k ts = filter (is_named k) ts

pub texts_stand : (k : Kind) (c : List ℕ) (fs : List HeaderSpan) (ts : List FieldTree) → AllStand c fs ts → flat_map (λ (f : HeaderSpan). part c f.whole) (filter (is_of k) fs) ≡ fields (all_named k ts)
texts_stand k c [] [] h = refl
texts_stand k c [] (u ∷ ts) h = absurd h
texts_stand k c (f ∷ fs) [] h = absurd h
texts_stand k c (f ∷ fs) (u ∷ ts) h = elim (cases_Bool (is_named k u)) [
  | inl y ↦ let test = test_is k c f u h.0 ∙ y in rw (test, y, h.0.text, texts_stand k c fs ts h.1) refl
  | inr n ↦ let test = test_is k c f u h.0 ∙ n in rw (test, n, texts_stand k c fs ts h.1) refl
]

count_fields : (p : HeaderSpan → Bool) (x : HeaderSpan) (xs : List HeaderSpan) → count_by p (x ∷ xs) ≡ cond (p x) 1 0 + count_by p xs
count_fields p x xs = sum_by-cons (λ (y : HeaderSpan). cond (p y) 1 0) x xs

pub count_trees : (p : FieldTree → Bool) (x : FieldTree) (xs : List FieldTree) → count_by p (x ∷ xs) ≡ cond (p x) 1 0 + count_by p xs
count_trees p x xs = sum_by-cons (λ (y : FieldTree). cond (p y) 1 0) x xs

pub count_stands : (k : Kind) (c : List ℕ) (fs : List HeaderSpan) (ts : List FieldTree) → AllStand c fs ts → count k fs ≡ count_by (is_named k) ts
count_stands k c [] [] h = refl
count_stands k c [] (u ∷ ts) h = absurd h
count_stands k c (f ∷ fs) [] h = absurd h
count_stands k c (f ∷ fs) (u ∷ ts) h = count_fields (is_of k) f fs ∙ ap (λ (t : Bool). cond t 1 0 + count k fs) (test_is k c f u h.0) ∙ ap (λ (n : ℕ). cond (is_named k u) 1 0 + n) (count_stands k c fs ts h.1) ∙ sym (count_trees (is_named k) u ts)

-- a next value stands behind
route_ahead : (text : List ℕ) (i j : ℕ) → i ≤ length text → next_route text i ≡ Some (Some j) → (i < j) × (j ≤ length text)
unfolding next_route
route_ahead text i j le e =
    let n = bind_some (route_at text i) _ (Some j) e in
    let t = route_value_takes text i n.0 le n.1 in
    let place : name_addr_place i t.0 ≡ n.0 = same_Some _ n.0 (sym (route_value_again text i t.0 le t.2 t.1) ∙ n.1) in
    let end = ends_text text i (name_addr t.0) le t.2 in
    let next : n.0.next ≡ Some j = same_Some _ _ n.2 in
    let lies = (name_addr_lies i (length text) t.0 (omega (arith, end))).next in
    let there = subst (λ (x : NameAddr). IfSome x.next (λ k. (i < k) × (k ≤ length text))) place lies in
    subst (λ (o : Option ℕ). IfSome o (λ k. (i < k) × (k ≤ length text))) next there

via_ahead : (text : List ℕ) (i j : ℕ) → i ≤ length text → next_via text i ≡ Some (Some j) → (i < j) × (j ≤ length text)
unfolding next_via
via_ahead text i j le e =
    let v = bind_some (via_at text i) _ (Some j) e in
    let next : v.0.next ≡ Some j = same_Some _ _ v.2 in
    subst (λ (o : Option ℕ). IfSome o (λ k. (i < k) × (k ≤ length text))) next (via_between text i v.0 le v.1).next

no_more : (j : ℕ) (P : Type 0) → Some None ≡ Some (Some j) → P
no_more j P e = absurd (none-some j (same_Some _ _ e))

ahead : (k : Kind) (text : List ℕ) (i j : ℕ) → i ≤ length text → next_value k text i ≡ Some (Some j) → (i < j) × (j ≤ length text)
ahead kind.Via text i j le e = via_ahead text i j le e
ahead kind.Route text i j le e = route_ahead text i j le e
ahead kind.From text i j le e = no_more j _ e
ahead kind.To text i j le e = no_more j _ e
ahead kind.CallId text i j le e = no_more j _ e
ahead kind.CSeq text i j le e = no_more j _ e
ahead kind.MaxForwards text i j le e = no_more j _ e
ahead kind.RecordRoute text i j le e = no_more j _ e
ahead kind.Contact text i j le e = no_more j _ e
ahead kind.ContentLength text i j le e = no_more j _ e
ahead kind.Other text i j le e = no_more j _ e

-- as many steps as there are bytes are enough for the values of a list
pub enough : (k : Kind) (text : List ℕ) (n m i : ℕ) → i ≤ length text → length text < i + m → values_read n (next_value k text) i ≡ true → values_read m (next_value k text) i ≡ true
unfolding values_read
enough k text zero m i le lt h = absurd (cc)
enough k text (suc n) zero i le lt h = absurd (omega arith)
enough k text (suc n) (suc m) i le lt h = by_next (next_value k text i) refl h (λ j low high e. enough k text n m j high (omega (arith, low, lt)) e)
  where
    by_next : (o : Option (Option ℕ)) → next_value k text i ≡ o → rest_reads o (values_read n (next_value k text)) ≡ true → ((j : ℕ) → i < j → j ≤ length text → values_read n (next_value k text) j ≡ true → values_read m (next_value k text) j ≡ true) → rest_reads (next_value k text i) (values_read m (next_value k text)) ≡ true
    by_next None e r go = absurd (cc)
    by_next (Some None) e r go = rw e refl
    by_next (Some (Some j)) e r go = let a = ahead k text i j le e in rw e (go j a.0 a.1 r)

-- each value of a list reads
abbrev pub ListReads : FieldTree → Type 0
ListReads t = values_read (suc (length (value_text t))) (next_value (kind_of t.name) (value_text t)) 0 ≡ true

same_length : (text : List ℕ) (i : ℕ) (other : List ℕ) (j : ℕ) → Alike text i other j → length text - i ≡ length other - j
same_length text i other j a = sym (length-drop i text) ∙ ap (λ (x : List ℕ). length x) a.bytes ∙ length-drop j other

pub list_here : (c : List ℕ) (f : HeaderSpan) (t : FieldTree) → Stands c f t → list_reads c f ≡ true → ListReads t
unfolding list_reads
list_here c f t h e =
    let moved = values_alike f.kind (take f.value.to c) (value_text t) (suc (length c)) (suc (length c)) f.value.from 0 (omega arith) h.here e in
    let short = enough f.kind (value_text t) (suc (length c)) (suc (length (value_text t))) 0 (omega arith) (omega arith) moved in
    subst (λ (k : Kind). values_read (suc (length (value_text t))) (next_value k (value_text t)) 0 ≡ true) h.kind short

pub list_there : (c : List ℕ) (f : HeaderSpan) (t : FieldTree) → Stands c f t → ListReads t → list_reads c f ≡ true
unfolding list_reads
list_there c f t h e =
    let size = same_length (value_text t) 0 (take f.value.to c) f.value.from h.back in
    let le : suc (length (value_text t)) ≤ suc (length c) = omega (arith, size, length-take f.value.to c) in
    subst (λ (k : Kind). values_read (suc (length c)) (next_value k (take f.value.to c)) f.value.from ≡ true) (sym h.kind) (values_alike (kind_of t.name) (value_text t) (take f.value.to c) (suc (length (value_text t))) (suc (length c)) 0 f.value.from le h.back e)

pub lists_here : (c : List ℕ) (fs : List HeaderSpan) (ts : List FieldTree) → AllStand c fs ts → list_all (list_reads c) fs ≡ true → AllByRecursion ListReads ts
lists_here c [] [] h e = tt
lists_here c [] (u ∷ ts) h e = absurd h
lists_here c (f ∷ fs) [] h e = absurd h
lists_here c (f ∷ fs) (u ∷ ts) h e = elim (cases_Bool (list_reads c f)) [
  | inl t ↦ (list_here c f u h.0 t, lists_here c fs ts h.1 (rw t at e))
  | inr n ↦ absurd (cc (rw n at e))
]

pub lists_there : (c : List ℕ) (fs : List HeaderSpan) (ts : List FieldTree) → AllStand c fs ts → AllByRecursion ListReads ts → list_all (list_reads c) fs ≡ true
lists_there c [] [] h a = refl
lists_there c [] (u ∷ ts) h a = absurd h
lists_there c (f ∷ fs) [] h a = absurd h
lists_there c (f ∷ fs) (u ∷ ts) h a = rw (list_there c f u h.0 a.0, lists_there c fs ts h.1 a.1) refl

-- the one value of From or To
unfoldable pub only_name : List ℕ → Option NameAddr
only_name text = do
  n ← name_addr_at text 0
  if is_none n.next then Some n else None

-- a number that may be absent
abbrev pub maybe : (List ℕ → ℕ → Option ℕ) → Option FieldTree → Option (Option ℕ)
maybe read None = Some None
maybe read (Some t) = option_map Some (read (value_text t) 0)

-- what is read of the fields of a message
pub record Fields (ts : List FieldTree) : Type 0 where
  pub via_field : FieldTree
  pub via : Via
  pub via_first : find (is_named kind.Via) ts ≡ Some via_field
  pub via_reads : via_at (value_text via_field) 0 ≡ Some via
  pub from_field : FieldTree
  pub from : NameAddr
  pub from_first : find (is_named kind.From) ts ≡ Some from_field
  pub from_reads : only_name (value_text from_field) ≡ Some from
  pub to_field : FieldTree
  pub to : NameAddr
  pub to_first : find (is_named kind.To) ts ≡ Some to_field
  pub to_reads : only_name (value_text to_field) ≡ Some to
  pub call_field : FieldTree
  pub call : Span
  pub call_first : find (is_named kind.CallId) ts ≡ Some call_field
  pub call_reads : call_id_at (value_text call_field) 0 ≡ Some call
  pub cseq_field : FieldTree
  pub cseq : CSeq
  pub cseq_first : find (is_named kind.CSeq) ts ≡ Some cseq_field
  pub cseq_reads : cseq_at (value_text cseq_field) 0 ≡ Some cseq
  pub hops : Option ℕ
  pub hops_read : maybe hops_at (find (is_named kind.MaxForwards) ts) ≡ Some hops
  pub size : Option ℕ
  pub size_read : maybe (whole_number 10) (find (is_named kind.ContentLength) ts) ≡ Some size
  pub lists : AllByRecursion ListReads ts
  pub some_via : 1 ≤ count_by (is_named kind.Via) ts
  pub one_from : count_by (is_named kind.From) ts ≡ 1
  pub one_to : count_by (is_named kind.To) ts ≡ 1
  pub one_call : count_by (is_named kind.CallId) ts ≡ 1
  pub one_cseq : count_by (is_named kind.CSeq) ts ≡ 1
  pub few_hops : count_by (is_named kind.MaxForwards) ts ≤ 1
  pub few_sizes : count_by (is_named kind.ContentLength) ts ≤ 1
