-- One walk over the fields: the first of each kind, and how many there are.
use Rattle.std.proofs.Common.{◌≡◌, ◌≢◌, ℕ, zero, suc, ◌+◌, ◌<◌, ◌≤◌, ◌==◌, Bool, true, false, cond, List, [], ◌∷◌, length, take, get_or, refl, sym, subst, ap, ◌∙◌, inl, inr, arith, Option, Some, None, Bor, nat_lt, length-take}
use Rattle.std.specs.Prelude.{slice_get, is_some, IfSome}
use Rattle.std.specs.Option.{option_or, option_copied}
use Rattle.std.specs.List.{find, count_by, AllByRecursion}
use Rattle.std.proofs.lemmas.Bool.{cases_Bool, cases_eq, ne_eqb, ltb-true, ltb-false}
use Rattle.std.proofs.lemmas.Bool.Decides.{nat_tests}
use Rattle.std.proofs.lemmas.Grind.{get_or-set_at}
use Rattle.std.proofs.Math.ListN.{set}
use Rattle.std.proofs.lemmas.List.{take_more, take_all, get_or-set_same, get_or-set_other, length-set}
use Rattle.std.proofs.lemmas.List.Folds.{find-append}
use Rattle.std.proofs.lemmas.List.Sums.{count_by_more_no, count_by_more_yes, count_by-le-length}
use Rattle.std.proofs.lemmas.Option.{slice_get-get_or, slice_get_past}
use Rattle.sip_scan.specs.declared.field.HeaderSpan.{HeaderSpan}
use Rattle.sip_scan.specs.declared.field.Kind.{Kind}
use Rattle.sip_scan.specs.Field.{field_kind_number}
use Rattle.sip_msg.specs.Fields.{is_of, first, count, first_of, count_of, IsTally}

pub first_is : (k : Kind) (fields : List HeaderSpan) → first k fields ≡ first_of (field_kind_number k) fields
unfolding is_of
first_is k fields = refl

pub count_is : (k : Kind) (fields : List HeaderSpan) → count k fields ≡ count_of (field_kind_number k) fields
unfolding is_of
count_is k fields = refl

-- what one walk has found before the place i
pub record Tallied (fields : List HeaderSpan) (i : ℕ) (firsts counts : List ℕ) : Type 0 where
  pub firsts_len : length firsts ≡ 11
  pub counts_len : length counts ≡ 11
  pub counted : (n : ℕ) → n < 11 → get_or counts n 0 ≡ count_of n (take i fields)
  pub found : (n : ℕ) → n < 11 → cond (get_or counts n 0 == 0) None (slice_get fields (get_or firsts n 0)) ≡ first_of n (take i fields)

-- none of a kind was counted where none is found
none_counted : (p : HeaderSpan → Bool) (xs : List HeaderSpan) → find p xs ≡ None → count_by p xs ≡ 0
none_counted p [] e = refl
none_counted p (x ∷ xs) e = elim (cases_Bool (p x)) [ inl t ↦ let h : Some x ≡ None = rw t at e in absurd (cc) | inr f ↦ rw f (none_counted p xs (rw f at e)) ]

-- one field more
first_more : (p : HeaderSpan → Bool) (fields : List HeaderSpan) (i : ℕ) (d : HeaderSpan) → i < length fields → find p (take (i + 1) fields) ≡ option_or (find p (take i fields)) (cond (p (get_or fields i d)) (Some (get_or fields i d)) None)
first_more p fields i d lt = ap (find p) (take_more fields i d lt) ∙ find-append p (take i fields) (get_or fields i d ∷ [])

first_no : (p : HeaderSpan → Bool) (fields : List HeaderSpan) (i : ℕ) (d : HeaderSpan) → i < length fields → p (get_or fields i d) ≡ false → find p (take (i + 1) fields) ≡ find p (take i fields)
first_no p fields i d lt fails = first_more p fields i d lt ∙ rw fails (by_cases (find p (take i fields)))
  where
    by_cases : (o : Option HeaderSpan) → option_or o None ≡ o
    by_cases None = refl
    by_cases (Some x) = refl

first_new : (p : HeaderSpan → Bool) (fields : List HeaderSpan) (i : ℕ) (d : HeaderSpan) → i < length fields → p (get_or fields i d) ≡ true → find p (take i fields) ≡ None → find p (take (i + 1) fields) ≡ Some (get_or fields i d)
first_new p fields i d lt passes none = first_more p fields i d lt ∙ rw (passes, none) refl

first_old : (p : HeaderSpan → Bool) (fields : List HeaderSpan) (i : ℕ) (d : HeaderSpan) → i < length fields → count_by p (take i fields) ≢ 0 → find p (take (i + 1) fields) ≡ find p (take i fields)
first_old p fields i d lt some = first_more p fields i d lt ∙ by_cases (find p (take i fields)) refl
  where
    by_cases : (o : Option HeaderSpan) → find p (take i fields) ≡ o → option_or o (cond (p (get_or fields i d)) (Some (get_or fields i d)) None) ≡ o
    by_cases None e = absurd (some (none_counted p (take i fields) e))
    by_cases (Some x) e = refl

is_true : (a b : ℕ) → a ≡ b → (a == b) ≡ true
is_true a b e = grind (arith, nat_tests)

more_isnt : (n : ℕ) → (n + 1 == 0) ≡ false
more_isnt n = grind (arith, nat_tests)

zero_at : (xs : List ℕ) → AllByRecursion (λ x. x ≡ 0) xs → (n : ℕ) → get_or xs n 0 ≡ 0
zero_at [] z n = refl
zero_at (x ∷ xs) z zero = z.0
zero_at (x ∷ xs) z (suc n) = zero_at xs z.1 n

pub starts : (fields : List HeaderSpan) (firsts counts : List ℕ) → length firsts ≡ 11 → length counts ≡ 11 → AllByRecursion (λ x. x ≡ 0) counts → Tallied fields 0 firsts counts
starts fields firsts counts f c z = record {
  firsts_len = f;
  counts_len = c;
  counted = λ n lt. zero_at counts z n;
  found = λ n lt. rw (zero_at counts z n) refl;
}

counted_step : (fields : List HeaderSpan) (i m : ℕ) (d : HeaderSpan) (firsts counts : List ℕ) → i < length fields → m ≡ field_kind_number (get_or fields i d).kind → m < 11 → Tallied fields i firsts counts → (n : ℕ) → n < 11 → get_or (set counts m (get_or counts m 0 + 1)) n 0 ≡ count_of n (take (i + 1) fields)
counted_step fields i m d firsts counts lt is below h n low = elim (cases_eq n m) [
  | inl same ↦
      let passes : (n == field_kind_number (get_or fields i d).kind) ≡ true = is_true n _ (same ∙ is) in
      let at : get_or (set counts m (get_or counts m 0 + 1)) n 0 ≡ get_or counts m 0 + 1 = get_or-set_at counts m n (get_or counts m 0 + 1) 0 same (omega (arith, h.counts_len)) in
      at ∙ ap (λ (k : ℕ). get_or counts k 0 + 1) (sym same) ∙ ap (λ (k : ℕ). k + 1) (h.counted n low) ∙ sym (count_by_more_yes (λ f. n == field_kind_number f.kind) fields i d lt passes)
  | inr other ↦
      let fails : (n == field_kind_number (get_or fields i d).kind) ≡ false = ne_eqb n _ (λ e. other (e ∙ sym is)) in
      get_or-set_other counts m n (get_or counts m 0 + 1) 0 other ∙ h.counted n low ∙ sym (count_by_more_no (λ f. n == field_kind_number f.kind) fields i d lt fails)
]

found_other : (fields : List HeaderSpan) (i m : ℕ) (d : HeaderSpan) (firsts counts firsts2 : List ℕ) → i < length fields → m ≡ field_kind_number (get_or fields i d).kind → Tallied fields i firsts counts → (n : ℕ) → n < 11 → n ≢ m → get_or firsts2 n 0 ≡ get_or firsts n 0 → cond (get_or (set counts m (get_or counts m 0 + 1)) n 0 == 0) None (slice_get fields (get_or firsts2 n 0)) ≡ first_of n (take (i + 1) fields)
found_other fields i m d firsts counts firsts2 lt is h n low other same =
    let fails : (n == field_kind_number (get_or fields i d).kind) ≡ false = ne_eqb n _ (λ e. other (e ∙ sym is)) in
    let count = get_or-set_other counts m n (get_or counts m 0 + 1) 0 other in
    rw (count, same) (h.found n low) ∙ sym (first_no (λ f. n == field_kind_number f.kind) fields i d lt fails)

row_is : (fields : List HeaderSpan) (c place : ℕ) (o : Option HeaderSpan) → slice_get fields place ≡ o → cond (c + 1 == 0) None (slice_get fields place) ≡ o
row_is fields c place o e = rw (more_isnt c) e

pub step_new : (fields : List HeaderSpan) (i m : ℕ) (d : HeaderSpan) (firsts counts firsts2 : List ℕ) → i < length fields → m ≡ field_kind_number (get_or fields i d).kind → m < 11 → Tallied fields i firsts counts → get_or counts m 0 ≡ 0 → firsts2 ≡ set firsts m i → Tallied fields (i + 1) firsts2 (set counts m (get_or counts m 0 + 1))
step_new fields i m d firsts counts firsts2 lt is below h none made = record {
  firsts_len = ap length made ∙ length-set firsts m i ∙ h.firsts_len;
  counts_len = length-set counts m (get_or counts m 0 + 1) ∙ h.counts_len;
  counted = counted_step fields i m d firsts counts lt is below h;
  found = λ n low. elim (cases_eq n m) [
    | inl same ↦
        let passes : (m == field_kind_number (get_or fields i d).kind) ≡ true = is_true m _ is in
        let before : first_of m (take i fields) ≡ None = sym (rw none at (h.found m below)) in
        let count : get_or (set counts m (get_or counts m 0 + 1)) m 0 ≡ get_or counts m 0 + 1 = get_or-set_same counts m (get_or counts m 0 + 1) 0 (omega (arith, h.counts_len)) in
        let place : get_or firsts2 m 0 ≡ i = ap (λ (xs : List ℕ). get_or xs m 0) made ∙ get_or-set_same firsts m i 0 (omega (arith, h.firsts_len)) in
        let here = row_is fields (get_or counts m 0) i (Some (get_or fields i d)) (slice_get-get_or fields i d lt) in
        let at_m : cond (get_or (set counts m (get_or counts m 0 + 1)) m 0 == 0) None (slice_get fields (get_or firsts2 m 0)) ≡ first_of m (take (i + 1) fields) = rw (count, place) here ∙ sym (first_new (λ f. m == field_kind_number f.kind) fields i d lt passes before) in
        subst (λ (k : ℕ). cond (get_or (set counts m (get_or counts m 0 + 1)) k 0 == 0) None (slice_get fields (get_or firsts2 k 0)) ≡ first_of k (take (i + 1) fields)) (sym same) at_m
    | inr other ↦ found_other fields i m d firsts counts firsts2 lt is h n low other (ap (λ (xs : List ℕ). get_or xs n 0) made ∙ get_or-set_other firsts m n i 0 other)
  ];
}

pub step_more : (fields : List HeaderSpan) (i m : ℕ) (d : HeaderSpan) (firsts counts firsts2 : List ℕ) → i < length fields → m ≡ field_kind_number (get_or fields i d).kind → m < 11 → Tallied fields i firsts counts → get_or counts m 0 ≢ 0 → firsts2 ≡ firsts → Tallied fields (i + 1) firsts2 (set counts m (get_or counts m 0 + 1))
step_more fields i m d firsts counts firsts2 lt is below h some made = record {
  firsts_len = ap length made ∙ h.firsts_len;
  counts_len = length-set counts m (get_or counts m 0 + 1) ∙ h.counts_len;
  counted = counted_step fields i m d firsts counts lt is below h;
  found = λ n low. elim (cases_eq n m) [
    | inl same ↦
        let before : slice_get fields (get_or firsts m 0) ≡ first_of m (take i fields) = rw (ne_eqb (get_or counts m 0) 0 some) at (h.found m below) in
        let count : get_or (set counts m (get_or counts m 0 + 1)) m 0 ≡ get_or counts m 0 + 1 = get_or-set_same counts m (get_or counts m 0 + 1) 0 (omega (arith, h.counts_len)) in
        let place : get_or firsts2 m 0 ≡ get_or firsts m 0 = ap (λ (xs : List ℕ). get_or xs m 0) made in
        let here = row_is fields (get_or counts m 0) (get_or firsts m 0) (first_of m (take i fields)) before in
        let old = first_old (λ f. m == field_kind_number f.kind) fields i d lt (λ e. some (h.counted m below ∙ e)) in
        let at_m : cond (get_or (set counts m (get_or counts m 0 + 1)) m 0 == 0) None (slice_get fields (get_or firsts2 m 0)) ≡ first_of m (take (i + 1) fields) = rw (count, place) here ∙ sym old in
        subst (λ (k : ℕ). cond (get_or (set counts m (get_or counts m 0 + 1)) k 0 == 0) None (slice_get fields (get_or firsts2 k 0)) ≡ first_of k (take (i + 1) fields)) (sym same) at_m
    | inr other ↦ found_other fields i m d firsts counts firsts2 lt is h n low other (ap (λ (xs : List ℕ). get_or xs n 0) made)
  ];
}

pub few : (fields : List HeaderSpan) (i m : ℕ) (firsts counts : List ℕ) → m < 11 → Tallied fields i firsts counts → get_or counts m 0 ≤ i
few fields i m firsts counts below h = omega (arith, h.counted m below, count_by-le-length (λ (f : HeaderSpan). m == field_kind_number f.kind) (take i fields), length-take i fields)

pub done : (fields : List HeaderSpan) (i : ℕ) (firsts counts : List ℕ) → length fields ≤ i → Tallied fields i firsts counts → IsTally fields firsts counts
done fields i firsts counts end h =
    let all = take_all i fields end in
    record { counted = λ n low. h.counted n low ∙ ap (count_of n) all; found = λ n low. h.found n low ∙ ap (first_of n) all }

pub none_first : (fields : List HeaderSpan) (firsts counts : List ℕ) (k : Kind) (m : ℕ) → IsTally fields firsts counts → m ≡ field_kind_number k → m < 11 → get_or counts m 0 ≡ 0 → None ≡ first k fields
none_first fields firsts counts k m t is below none = let h : None ≡ first_of m fields = rw none at (t.found m below) in h ∙ ap (λ (n : ℕ). first_of n fields) is ∙ sym (first_is k fields)

copied_is : (fields : List HeaderSpan) (j : ℕ) (r : Option (Bor HeaderSpan)) → is_some r ≡ nat_lt j (length fields) → IfSome r (λ x. x.now ≡ get_or fields j x.now) → option_copied r ≡ slice_get fields j
copied_is fields j None past here = sym (slice_get_past fields j (ltb-false j (length fields) (sym past)))
copied_is fields j (Some x) inside here = ap (λ (f : HeaderSpan). Some f) here ∙ sym (slice_get-get_or fields j x.now (ltb-true j (length fields) (sym inside)))

pub some_first : (fields : List HeaderSpan) (firsts counts : List ℕ) (k : Kind) (m : ℕ) (r : Option (Bor HeaderSpan)) → IsTally fields firsts counts → m ≡ field_kind_number k → m < 11 → get_or counts m 0 ≢ 0 → is_some r ≡ nat_lt (get_or firsts m 0) (length fields) → IfSome r (λ x. x.now ≡ get_or fields (get_or firsts m 0) x.now) → option_copied r ≡ first k fields
some_first fields firsts counts k m r t is below some inside here =
    let h : slice_get fields (get_or firsts m 0) ≡ first_of m fields = rw (ne_eqb (get_or counts m 0) 0 some) at (t.found m below) in
    copied_is fields (get_or firsts m 0) r inside here ∙ h ∙ ap (λ (n : ℕ). first_of n fields) is ∙ sym (first_is k fields)
