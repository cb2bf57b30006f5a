-- Fields with the same value in two texts.
use Rattle.std.proofs.Common.{◌≡◌, ℕ, suc, ◌+◌, ◌-◌, ◌≤◌, Bool, true, false, List, [], ◌∷◌, ◌++◌, length, take, drop, refl, sym, ap, ◌∙◌, subst, arith, append_assoc, length-append, length-take, Some, None, inl, inr}
use Rattle.std.specs.Prelude.{cond}
use Rattle.std.specs.List.{find, count_by, list_all}
use Rattle.std.proofs.lemmas.Bool.{cases_Bool}
use Rattle.std.proofs.lemmas.Option.{same_Some, none-some}
use Rattle.std.proofs.lemmas.List.{drop_at, drop-take, take-append-le}
use Rattle.std.proofs.lemmas.List.Sums.{sum_by-cons}
use Rattle.sip_scan.specs.declared.field.HeaderSpan.{HeaderSpan}
use Rattle.sip_scan.specs.declared.field.Kind.{Kind}
use Rattle.sip_scan.specs.Grammar.{crlf, lines, FieldTree, field, field_place, fields, field_places}
use Rattle.sip_scan.specs.Field.{is_same_kind}
use Rattle.sip_msg.specs.Fields.{is_of, first, count}
use Rattle.sip_msg.specs.Values.{next_value, values_read, list_reads}
use Rattle.sip_build.proofs.ReadTwins.{Alike, values_alike}

pub record Twin (b : List ℕ) (x : HeaderSpan) (c : List ℕ) (y : HeaderSpan) : Type 0 where
  pub kind : x.kind ≡ y.kind
  pub value : Alike (take x.value.to b) x.value.from (take y.value.to c) y.value.from

abbrev pub AreTwins : List ℕ → List HeaderSpan → List ℕ → List HeaderSpan → Type 0
AreTwins b [] c [] = Unit {0}
AreTwins b [] c (y ∷ ys) = ⊥
AreTwins b (x ∷ xs) c [] = ⊥
AreTwins b (x ∷ xs) c (y ∷ ys) = Twin b x c y × AreTwins b xs c ys

-- what stands behind the colon, and the value of it
unfoldable pub behind_colon : FieldTree → List ℕ
behind_colon t = t.first ++ (crlf ++ lines t.more)

unfoldable pub value_text : FieldTree → List ℕ
value_text t = take (length (behind_colon t) - 2) (behind_colon t)

regroup : (pre name gap colon v rest : List ℕ) → pre ++ ((name ++ (gap ++ (colon ++ v))) ++ rest) ≡ (pre ++ (name ++ (gap ++ colon))) ++ (v ++ rest)
regroup pre name gap colon v rest = simp append_assoc

pub field_value : (b pre rest : List ℕ) (t : FieldTree) → b ≡ pre ++ (field t ++ rest) → (drop (field_place (length pre) t).value.from (take (field_place (length pre) t).value.to b) ≡ value_text t) × ((field_place (length pre) t).value.from ≤ length (take (field_place (length pre) t).value.to b))
unfolding behind_colon value_text
field_value b pre rest t e =
    let v = behind_colon t in
    let front = pre ++ (t.name ++ (t.gap ++ (58 ∷ []))) in
    let n = length pre + length t.name + length t.gap + 1 in
    let k = length v - 2 in
    let whole = e ∙ regroup pre t.name t.gap (58 ∷ []) v rest in
    let front_len : length front ≡ n = omega (arith, length-append pre (t.name ++ (t.gap ++ (58 ∷ []))), length-append t.name (t.gap ++ (58 ∷ [])), length-append t.gap (58 ∷ [])) in
    let v_len : length v ≡ length t.first + (2 + length (lines t.more)) = omega (arith, length-append t.first (crlf ++ lines t.more), length-append crlf (lines t.more)) in
    let field_len : length (field t) ≡ length t.name + (length t.gap + (1 + length v)) = omega (arith, length-append t.name (t.gap ++ (58 ∷ v)), length-append t.gap (58 ∷ v)) in
    let to : (field_place (length pre) t).value.to ≡ n + k = omega (arith, field_len, v_len) in
    let len : length b ≡ length front + (length v + length rest) = ap (λ (x : List ℕ). length x) whole ∙ omega (arith, length-append front (v ++ rest), length-append v rest) in
    let behind : drop n b ≡ v ++ rest = ap (λ (x : List ℕ). drop n x) whole ∙ drop_at front (v ++ rest) n front_len in
    let bytes : drop n (take (n + k) b) ≡ take k v = drop-take n k b ∙ ap (λ (x : List ℕ). take k x) behind ∙ take-append-le k v rest (omega arith) in
    (rw to bytes, omega (arith, to, length-take (n + k) b, len, front_len, ap (λ (m : ℕ). length (take m b)) to))

twin_here : (b c pre pre2 rest rest2 : List ℕ) (t : FieldTree) → b ≡ pre ++ (field t ++ rest) → c ≡ pre2 ++ (field t ++ rest2) → Twin b (field_place (length pre) t) c (field_place (length pre2) t)
twin_here b c pre pre2 rest rest2 t e f =
    let mine = field_value b pre rest t e in
    let its = field_value c pre2 rest2 t f in
    record { kind = refl; value = record { bytes = mine.0 ∙ sym its.0; left = mine.1; right = its.1 } }

along : (pre one others rest : List ℕ) → pre ++ ((one ++ others) ++ rest) ≡ (pre ++ one) ++ (others ++ rest)
along pre one others rest = simp append_assoc

beside : (pre one others rest : List ℕ) → pre ++ ((one ++ others) ++ rest) ≡ pre ++ (one ++ (others ++ rest))
beside pre one others rest = simp append_assoc

pub twins_here : (b c pre pre2 rest rest2 : List ℕ) (i j : ℕ) (ts : List FieldTree) → i ≡ length pre → j ≡ length pre2 → b ≡ pre ++ (fields ts ++ rest) → c ≡ pre2 ++ (fields ts ++ rest2) → AreTwins b (field_places i ts) c (field_places j ts)
twins_here b c pre pre2 rest rest2 i j [] n m e f = tt
twins_here b c pre pre2 rest rest2 i j (t ∷ ts) n m e f = (
  subst (λ (k : ℕ). Twin b (field_place k t) c (field_place j t)) (sym n) (subst (λ (k : ℕ). Twin b (field_place (length pre) t) c (field_place k t)) (sym m) (twin_here b c pre pre2 (fields ts ++ rest) (fields ts ++ rest2) t (e ∙ beside pre (field t) (fields ts) rest) (f ∙ beside pre2 (field t) (fields ts) rest2))),
  twins_here b c (pre ++ field t) (pre2 ++ field t) rest rest2 (i + length (field t)) (j + length (field t)) ts (omega (arith, length-append pre (field t))) (omega (arith, length-append pre2 (field t))) (e ∙ along pre (field t) (fields ts) rest) (f ∙ along pre2 (field t) (fields ts) rest2),
)

pub twins_append : (b c : List ℕ) (xs ys vs ws : List HeaderSpan) → AreTwins b xs c ys → AreTwins b vs c ws → AreTwins b (xs ++ vs) c (ys ++ ws)
twins_append b c [] [] vs ws h k = k
twins_append b c [] (y ∷ ys) vs ws h k = absurd h
twins_append b c (x ∷ xs) [] vs ws h k = absurd h
twins_append b c (x ∷ xs) (y ∷ ys) vs ws h k = (h.0, twins_append b c xs ys vs ws h.1 k)

same_test : (k : Kind) (b c : List ℕ) (x y : HeaderSpan) → Twin b x c y → is_of k x ≡ is_of k y
unfolding is_of
same_test k b c x y h = ap (λ (o : Kind). is_same_kind k o) h.kind

pub first_twin : (k : Kind) (b c : List ℕ) (xs ys : List HeaderSpan) (x : HeaderSpan) → AreTwins b xs c ys → first k xs ≡ Some x → (y : HeaderSpan) × (first k ys ≡ Some y) × Twin b x c y
first_twin k b c [] [] x h e = absurd (none-some x e)
first_twin k b c [] (w ∷ ys) x h e = absurd h
first_twin k b c (v ∷ xs) [] x h e = absurd h
first_twin k b c (v ∷ xs) (w ∷ ys) x h e = elim (cases_Bool (is_of k v)) [
  | inl t ↦ let test = sym (same_test k b c v w h.0) ∙ t in (w, rw test refl, subst (λ (z : HeaderSpan). Twin b z c w) (same_Some v x (rw t at e)) h.0)
  | inr f ↦ let test = sym (same_test k b c v w h.0) ∙ f in let later = first_twin k b c xs ys x h.1 (rw f at e) in (later.0, rw test later.1, later.2)
]

pub none_twin : (k : Kind) (b c : List ℕ) (xs ys : List HeaderSpan) → AreTwins b xs c ys → first k xs ≡ None → first k ys ≡ None
none_twin k b c [] [] h e = refl
none_twin k b c [] (w ∷ ys) h e = absurd h
none_twin k b c (v ∷ xs) [] h e = absurd h
none_twin k b c (v ∷ xs) (w ∷ ys) h e = elim (cases_Bool (is_of k v)) [
  | inl t ↦ absurd (none-some v (sym (rw t at e)))
  | inr f ↦ let test = sym (same_test k b c v w h.0) ∙ f in rw test (none_twin k b c xs ys h.1 (rw f at e))
]

count_cons : (p : HeaderSpan → Bool) (x : HeaderSpan) (xs : List HeaderSpan) → count_by p (x ∷ xs) ≡ cond (p x) 1 0 + count_by p xs
count_cons p x xs = sum_by-cons (λ (y : HeaderSpan). cond (p y) 1 0) x xs

pub count_twin : (k : Kind) (b c : List ℕ) (xs ys : List HeaderSpan) → AreTwins b xs c ys → count k ys ≡ count k xs
count_twin k b c [] [] h = refl
count_twin k b c [] (w ∷ ys) h = absurd h
count_twin k b c (v ∷ xs) [] h = absurd h
count_twin k b c (v ∷ xs) (w ∷ ys) h = count_cons (is_of k) w ys ∙ ap (λ (t : Bool). cond t 1 0 + count k ys) (sym (same_test k b c v w h.0)) ∙ ap (λ (n : ℕ). cond (is_of k v) 1 0 + n) (count_twin k b c xs ys h.1) ∙ sym (count_cons (is_of k) v xs)

-- each list that reads has a twin that reads
list_twin : (b c : List ℕ) (x y : HeaderSpan) → length b ≤ length c → Twin b x c y → list_reads b x ≡ true → list_reads c y ≡ true
unfolding list_reads
list_twin b c x y le h e =
    let here = values_alike x.kind (take x.value.to b) (take y.value.to c) (suc (length b)) (suc (length c)) x.value.from y.value.from (omega arith) h.value e in
    subst (λ (o : Kind). values_read (suc (length c)) (next_value o (take y.value.to c)) y.value.from ≡ true) h.kind here

pub lists_twin : (b c : List ℕ) (xs ys : List HeaderSpan) → length b ≤ length c → AreTwins b xs c ys → list_all (list_reads b) xs ≡ true → list_all (list_reads c) ys ≡ true
lists_twin b c [] [] le h e = refl
lists_twin b c [] (w ∷ ys) le h e = absurd h
lists_twin b c (v ∷ xs) [] le h e = absurd h
lists_twin b c (v ∷ xs) (w ∷ ys) le h e = elim (cases_Bool (list_reads b v)) [
  | inl t ↦ rw (list_twin b c v w le h.0 t) (lists_twin b c xs ys le h.1 (rw t at e))
  | inr f ↦ absurd (cc (rw f at e))
]

-- one field more
pub find_past : (p : HeaderSpan → Bool) (xs ys : List HeaderSpan) (n : HeaderSpan) → p n ≡ false → find p (xs ++ (n ∷ ys)) ≡ find p (xs ++ ys)
find_past p [] ys n h = rw h refl
find_past p (x ∷ xs) ys n h = elim (cases_Bool (p x)) [ inl t ↦ rw t refl | inr f ↦ rw f (find_past p xs ys n h) ]

pub count_past : (p : HeaderSpan → Bool) (xs ys : List HeaderSpan) (n : HeaderSpan) → count_by p (xs ++ (n ∷ ys)) ≡ cond (p n) 1 0 + count_by p (xs ++ ys)
count_past p [] ys n = count_cons p n ys
count_past p (x ∷ xs) ys n =
    let rest = count_past p xs ys n in
    count_cons p x (xs ++ (n ∷ ys)) ∙ omega (arith, rest, count_cons p x (xs ++ ys))

pub all_past : (p : HeaderSpan → Bool) (xs ys : List HeaderSpan) (n : HeaderSpan) → p n ≡ true → list_all p (xs ++ ys) ≡ true → list_all p (xs ++ (n ∷ ys)) ≡ true
all_past p [] ys n h e = rw (h, e) refl
all_past p (x ∷ xs) ys n h e = elim (cases_Bool (p x)) [ inl t ↦ rw t (all_past p xs ys n h (rw t at e)) | inr f ↦ absurd (cc (rw f at e)) ]

-- the fields up to the first that passes
pub record Split (p : HeaderSpan → Bool) (i : ℕ) (ts : List FieldTree) (f : HeaderSpan) : Type 0 where
  pub before : List FieldTree
  pub here : FieldTree
  pub after : List FieldTree
  pub whole : ts ≡ before ++ (here ∷ after)
  pub place : f ≡ field_place (i + length (fields before)) here
  pub none : find p (field_places i before) ≡ None

pub split : (p : HeaderSpan → Bool) (i : ℕ) (ts : List FieldTree) (f : HeaderSpan) → find p (field_places i ts) ≡ Some f → Split p i ts f
split p i [] f e = absurd (none-some f e)
split p i (t ∷ ts) f e = elim (cases_Bool (p (field_place i t))) [
  | inl y ↦ record { before = []; here = t; after = ts; whole = refl; place = sym (same_Some _ f (rw y at e)) ∙ ap (λ (k : ℕ). field_place k t) (omega arith); none = refl }
  | inr n ↦
      let later = split p (i + length (field t)) ts f (rw n at e) in
      record {
        before = t ∷ later.before;
        here = later.here;
        after = later.after;
        whole = ap (λ (xs : List FieldTree). t ∷ xs) later.whole;
        place = later.place ∙ ap (λ (k : ℕ). field_place k later.here) (omega (arith, length-append (field t) (fields later.before)));
        none = rw n later.none;
      }
]

pub places_append : (i : ℕ) (ts us : List FieldTree) → field_places i (ts ++ us) ≡ field_places i ts ++ field_places (i + length (fields ts)) us
places_append i [] us = ap (λ (k : ℕ). field_places k us) (omega arith)
places_append i (t ∷ ts) us =
    let k : i + length (field t) + length (fields ts) ≡ i + length (field t ++ fields ts) = omega (arith, length-append (field t) (fields ts)) in
    ap (λ (xs : List HeaderSpan). field_place i t ∷ xs) (places_append (i + length (field t)) ts us ∙ ap (λ (m : ℕ). field_places (i + length (field t)) ts ++ field_places m us) k)
