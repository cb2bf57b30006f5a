-- Digits that are read one by one.
use Rattle.std.proofs.Common.{◌≡◌, ℕ, ◌+◌, ◌*◌, ◌^◌, ◌<◌, ◌≤◌, nat_lt, Bool, true, false, ◌&&◌, List, [], ◌∷◌, length, drop, get_or, Option, Some, None, if◌then◌else◌, refl, sym, ap, ◌∙◌, inl, inr, arith, ◌==◌, zero, suc, true≢false}
use Rattle.std.proofs.lemmas.Bool.{cases_Bool, lt-ltb, ltb-true, cases_lt}
use Rattle.std.proofs.lemmas.List.{at_drop_more}
use Rattle.std.proofs.Math.ListN.{drop_of_length-le}
use Rattle.std.specs.Char.{digit_value, is_digit}
use Rattle.std.specs.List.{list_all}
use Rattle.std.specs.Str.Parse.{digits_value_after}
use Rattle.pv_values.specs.Numbers.{numeral}

-- the number that digits write after those of n, where each beginning of it has 64 bits
abbrev pub number_after : ℕ → List ℕ → Option ℕ
number_after n [] = Some n
number_after n (d ∷ ds) =
    if is_digit d 10 then (if nat_lt (n * 10 + digit_value d) (2 ^ 64) then number_after (n * 10 + digit_value d) ds else None)
    else None

-- more digits make no less
grows : (n : ℕ) (ds : List ℕ) → n ≤ digits_value_after 10 n ds
grows n [] = omega arith
grows n (d ∷ ds) = let more = grows (n * 10 + digit_value d) ds in omega (arith, more)

-- nothing is below what a number below it isn't
not_below : (a b c : ℕ) → c ≤ a → a ≤ b → nat_lt b c ≡ false
not_below a b c h k = elim (cases_Bool (nat_lt b c)) [
  | inl t ↦ let low = ltb-true b c t in absurd (omega (arith, low, h, k))
  | inr f ↦ f
]

and_false : (a b : Bool) → b ≡ false → (a && b) ≡ false
and_false true b h = h
and_false false b h = refl

-- the digits that are left, read one by one, write what they write as a whole
after_is : (n : ℕ) (ds : List ℕ) → n < 2 ^ 64 → number_after n ds ≡
    (if list_all (λ c. is_digit c 10) ds && nat_lt (digits_value_after 10 n ds) (2 ^ 64) then Some (digits_value_after 10 n ds) else None)
after_is n [] h = let t : nat_lt n (2 ^ 64) ≡ true = lt-ltb _ _ h in rw t refl
after_is n (d ∷ ds) h = elim (cases_Bool (is_digit d 10)) [
  | inr f ↦ rw f refl
  | inl t ↦ elim (cases_lt (n * 10 + digit_value d) (2 ^ 64)) [
    | inl low ↦ let u : nat_lt (n * 10 + digit_value d) (2 ^ 64) ≡ true = lt-ltb _ _ low in
        rw (t, u) (after_is (n * 10 + digit_value d) ds low)
    | inr high ↦
        let u : nat_lt (n * 10 + digit_value d) (2 ^ 64) ≡ false = not_below (2 ^ 64) (n * 10 + digit_value d) (2 ^ 64) (omega arith) high in
        let v : nat_lt (digits_value_after 10 (n * 10 + digit_value d) ds) (2 ^ 64) ≡ false =
        not_below (n * 10 + digit_value d) _ (2 ^ 64) high (grows (n * 10 + digit_value d) ds) in
        rw (t, u, and_false (list_all (λ c. is_digit c 10) ds) _ v) refl
  ]
]

-- one digit or more
pub whole_is : (ds : List ℕ) → 0 < length ds → number_after 0 ds ≡ numeral ds
whole_is [] h = absurd (omega (arith, h))
whole_is (d ∷ ds) h = after_is 0 (d ∷ ds) (omega arith)

-- one more byte
pub next_is : (n i : ℕ) (ds : List ℕ) → i < length ds → number_after n (drop i ds) ≡ number_after n (get_or ds i 0 ∷ drop (i + 1) ds)
next_is n i ds h = at_drop_more (number_after n) ds i 0 h

-- a byte that is no digit, and a digit that makes the number too great
pub no_digit : (n i : ℕ) (ds : List ℕ) → i < length ds → is_digit (get_or ds i 0) 10 ≡ false → number_after n (drop i ds) ≡ None
no_digit n i ds h f = next_is n i ds h ∙ (rw f refl)

pub too_great : (n i : ℕ) (ds : List ℕ) → i < length ds → 2 ^ 64 ≤ n * 10 + digit_value (get_or ds i 0) → number_after n (drop i ds) ≡ None
too_great n i ds h high = next_is n i ds h ∙ (elim (cases_Bool (is_digit (get_or ds i 0) 10)) [
  | inl t ↦ let u = not_below (2 ^ 64) (n * 10 + digit_value (get_or ds i 0)) (2 ^ 64) (omega arith) high in rw (t, u) refl
  | inr f ↦ rw f refl
])

pub goes_on : (n i m : ℕ) (ds : List ℕ) → i < length ds → is_digit (get_or ds i 0) 10 ≡ true → m ≡ n * 10 + digit_value (get_or ds i 0) →
    m < 2 ^ 64 → number_after m (drop (i + 1) ds) ≡ number_after n (drop i ds)
goes_on n i m ds h t e low =
    let u : nat_lt (n * 10 + digit_value (get_or ds i 0)) (2 ^ 64) ≡ true = lt-ltb _ _ (rw e at low) in
    rw e (sym (next_is n i ds h ∙ (rw (t, u) refl)))

pub no_test : (a b : ℕ) → ¬ (a < b) → nat_lt a b ≡ false
no_test a b h = elim (cases_Bool (nat_lt a b)) [ inl t ↦ absurd (h (ltb-true a b t)) | inr f ↦ f ]

pub at_least : (a b : ℕ) → ¬ (a < b) → b ≤ a
at_least a b h = elim (cases_lt a b) [ inl low ↦ absurd (h low) | inr high ↦ high ]

pub some_bytes : (n : ℕ) → false ≡ (n == 0) → 0 < n
some_bytes zero h = absurd (true≢false (sym h))
some_bytes (suc n) h = omega arith

-- what is left, read so, is None, so the whole is no numeral
pub is_none : (n i : ℕ) (ds : List ℕ) → false ≡ (length ds == 0) → number_after n (drop i ds) ≡ number_after 0 ds →
    number_after n (drop i ds) ≡ None → None ≡ numeral ds
is_none n i ds some same none = sym (sym (whole_is ds (some_bytes (length ds) some)) ∙ sym same ∙ none)

pub is_some_number : (n i : ℕ) (ds : List ℕ) → false ≡ (length ds == 0) → number_after n (drop i ds) ≡ number_after 0 ds →
    length ds ≤ i → Some n ≡ numeral ds
is_some_number n i ds some same end =
    let e : drop i ds ≡ [] = drop_of_length-le ds end in
    ap (number_after n) (sym e) ∙ same ∙ whole_is ds (some_bytes (length ds) some)
