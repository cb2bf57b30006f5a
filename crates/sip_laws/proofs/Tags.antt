-- Lists of fields of known kinds: which is the first of a kind, and how many there are.
use Rattle.std.proofs.Common.{◌≡◌, ℕ, ◌+◌, ◌==◌, Bool, true, false, List, [], ◌∷◌, ◌++◌, refl, sym, ap, ◌∙◌, subst, arith, inl, inr, Option, Some}
use Rattle.std.specs.Prelude.{cond}
use Rattle.std.specs.List.{find, count_by, AllByRecursion}
use Rattle.std.proofs.lemmas.Bool.{cases_Bool, eqb-true}
use Rattle.std.proofs.lemmas.Option.{same_Some, none-some}
use Rattle.sip_scan.specs.declared.field.Kind.{Kind}
use Rattle.sip_scan.specs.Field.{field_kind_number, is_same_kind, kind_of}
use Rattle.sip_scan.specs.Grammar.{FieldTree}
use Rattle.sip_laws.proofs.Trees.{is_named, all_named, count_trees}

abbrev pub Tagged : List Kind → List FieldTree → Type 0
Tagged [] [] = Unit {0}
Tagged [] (t ∷ ts) = ⊥
Tagged (k ∷ ks) [] = ⊥
Tagged (k ∷ ks) (t ∷ ts) = (is_named k t ≡ true) × Tagged ks ts

abbrev pub pick : Kind → List Kind → List FieldTree → Option FieldTree → Option FieldTree
pick k [] ts rest = rest
pick k (l ∷ ks) [] rest = rest
pick k (l ∷ ks) (t ∷ ts) rest = cond (is_same_kind k l) (Some t) (pick k ks ts rest)

abbrev pub tally : Kind → List Kind → ℕ → ℕ
tally k [] n = n
tally k (l ∷ ks) n = cond (is_same_kind k l) 1 0 + tally k ks n

-- the kind of a field decides
pub test_of : (k l : Kind) (t : FieldTree) → is_named l t ≡ true → is_named k t ≡ is_same_kind k l
test_of k l t h = let e = eqb-true (field_kind_number l) (field_kind_number (kind_of t.name)) h in ap (λ (n : ℕ). field_kind_number k == n) (sym e)

pub find_tagged : (k : Kind) (ks : List Kind) (ts more : List FieldTree) → Tagged ks ts → find (is_named k) (ts ++ more) ≡ pick k ks ts (find (is_named k) more)
find_tagged k [] [] more h = refl
find_tagged k [] (t ∷ ts) more h = absurd h
find_tagged k (l ∷ ks) [] more h = absurd h
find_tagged k (l ∷ ks) (t ∷ ts) more h =
    let test = test_of k l t h.0 in
    elim (cases_Bool (is_same_kind k l)) [
      | inl y ↦ let here = test ∙ y in rw (here, y) refl
      | inr n ↦ let here = test ∙ n in rw (here, n) (find_tagged k ks ts more h.1)
    ]

pub count_tagged : (k : Kind) (ks : List Kind) (ts more : List FieldTree) → Tagged ks ts → count_by (is_named k) (ts ++ more) ≡ tally k ks (count_by (is_named k) more)
count_tagged k [] [] more h = refl
count_tagged k [] (t ∷ ts) more h = absurd h
count_tagged k (l ∷ ks) [] more h = absurd h
count_tagged k (l ∷ ks) (t ∷ ts) more h = count_trees (is_named k) t (ts ++ more) ∙ ap (λ (x : Bool). cond x 1 0 + count_by (is_named k) (ts ++ more)) (test_of k l t h.0) ∙ ap (λ (n : ℕ). cond (is_same_kind k l) 1 0 + n) (count_tagged k ks ts more h.1)

-- fields of one kind
abbrev pub AllOf : Kind → List FieldTree → Type 0
AllOf k ts = AllByRecursion (λ t. is_named k t ≡ true) ts

pub all_of : (k : Kind) (ts : List FieldTree) → AllOf k (all_named k ts)
all_of k [] = tt
all_of k (t ∷ ts) = elim (cases_Bool (is_named k t)) [ inl y ↦ rw y (y, all_of k ts) | inr n ↦ rw n (all_of k ts) ]

pub find_past : (k l : Kind) (rs more : List FieldTree) → is_same_kind k l ≡ false → AllOf l rs → find (is_named k) (rs ++ more) ≡ find (is_named k) more
find_past k l [] more ne a = refl
find_past k l (t ∷ rs) more ne a = let here = test_of k l t a.0 ∙ ne in rw here (find_past k l rs more ne a.1)

pub count_past : (k l : Kind) (rs more : List FieldTree) → is_same_kind k l ≡ false → AllOf l rs → count_by (is_named k) (rs ++ more) ≡ count_by (is_named k) more
count_past k l [] more ne a = refl
count_past k l (t ∷ rs) more ne a =
    let here = test_of k l t a.0 ∙ ne in
    count_trees (is_named k) t (rs ++ more) ∙ ap (λ (x : Bool). cond x 1 0 + count_by (is_named k) (rs ++ more)) here ∙ omega (arith, count_past k l rs more ne a.1)

-- those of another kind are left out
pub named_past : (k l : Kind) (rs more : List FieldTree) → is_same_kind k l ≡ false → AllOf l rs → all_named k (rs ++ more) ≡ all_named k more
named_past k l [] more ne a = refl
named_past k l (t ∷ rs) more ne a = let here = test_of k l t a.0 ∙ ne in rw here (named_past k l rs more ne a.1)

pub named_all : (k : Kind) (rs more : List FieldTree) → AllOf k rs → all_named k (rs ++ more) ≡ rs ++ all_named k more
named_all k [] more a = refl
named_all k (t ∷ rs) more a = let here = a.0 in rw here (ap (λ (x : List FieldTree). t ∷ x) (named_all k rs more a.1))

-- what is said of all fields is said of the first of a kind, and of those of a kind
pub at_found : (P : FieldTree → Type 0) (k : Kind) (ts : List FieldTree) (t : FieldTree) → AllByRecursion P ts → find (is_named k) ts ≡ Some t → P t × (is_named k t ≡ true)
at_found P k [] t a e = absurd (none-some t e)
at_found P k (u ∷ ts) t a e = elim (cases_Bool (is_named k u)) [
  | inl y ↦ let same = same_Some u t (rw y at e) in (subst P same a.0, subst (λ (x : FieldTree). is_named k x ≡ true) same y)
  | inr n ↦ at_found P k ts t a.1 (rw n at e)
]

pub at_named : (P : FieldTree → Type 0) (k : Kind) (ts : List FieldTree) → AllByRecursion P ts → AllByRecursion P (all_named k ts)
at_named P k [] a = tt
at_named P k (u ∷ ts) a = elim (cases_Bool (is_named k u)) [ inl y ↦ rw y (a.0, at_named P k ts a.1) | inr n ↦ rw n (at_named P k ts a.1) ]

pub all_append : (P : FieldTree → Type 0) (ts us : List FieldTree) → AllByRecursion P ts → AllByRecursion P us → AllByRecursion P (ts ++ us)
all_append P [] us a c = c
all_append P (t ∷ ts) us a c = (a.0, all_append P ts us a.1 c)

-- those of a kind among fields of known kinds
abbrev pub keep : Kind → List Kind → List FieldTree → List FieldTree → List FieldTree
keep k [] ts rest = rest
keep k (l ∷ ks) [] rest = rest
keep k (l ∷ ks) (t ∷ ts) rest = cond (is_same_kind k l) (t ∷ keep k ks ts rest) (keep k ks ts rest)

pub named_tagged : (k : Kind) (ks : List Kind) (ts more : List FieldTree) → Tagged ks ts → all_named k (ts ++ more) ≡ keep k ks ts (all_named k more)
named_tagged k [] [] more h = refl
named_tagged k [] (t ∷ ts) more h = absurd h
named_tagged k (l ∷ ks) [] more h = absurd h
named_tagged k (l ∷ ks) (t ∷ ts) more h =
    let test = test_of k l t h.0 in
    elim (cases_Bool (is_same_kind k l)) [
      | inl y ↦ let here = test ∙ y in rw (here, y) (ap (λ (x : List FieldTree). t ∷ x) (named_tagged k ks ts more h.1))
      | inr n ↦ let here = test ∙ n in rw (here, n) (named_tagged k ks ts more h.1)
    ]
