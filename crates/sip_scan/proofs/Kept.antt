-- A loop that keeps the first 128 fields and counts them all.
use Rattle.std.proofs.Common.{◌≡◌, ℕ, zero, suc, ◌<◌, ◌≤◌, List, [], ◌∷◌, ◌++◌, length, take, refl, sym, ap, ◌∙◌, inl, inr, arith, length-append}
use Rattle.std.specs.Prelude.{All}
use Rattle.std.proofs.lemmas.List.{take_all, take_at, get_or_append_left, get_or_at}
use Rattle.std.proofs.lemmas.Bool.{cases_lt}
use Rattle.sip_words.specs.Many.{many}
use Rattle.sip_words.proofs.ManyLaws.{with_front}
use Rattle.sip_scan.specs.declared.field.HeaderSpan.{HeaderSpan}
use Rattle.sip_scan.specs.Field.{next_field, IsField}
use Rattle.sip_scan.specs.Head.{LieFrom}

pub record Seen (text : List ℕ) (from at : ℕ) (kept : List HeaderSpan) (count : ℕ) (front : List HeaderSpan) : Type 0 where
  pub low : from ≤ at
  pub inside : at ≤ length text
  pub kept_is : kept ≡ take 128 front
  pub count_le : count ≤ at
  pub count_is : count ≡ length front
  pub rest : with_front front (many (length text) (next_field text) at) ≡ many (length text) (next_field text) from
  pub order : LieFrom from front at
  pub each : All (IsField text) kept

pub kept_all : {A : Type 0} (xs : List A) (x : A) → length xs < 128 → take 128 (xs ++ x ∷ []) ≡ xs ++ x ∷ []
kept_all xs x lt = take_all 128 (xs ++ x ∷ []) (omega (arith, length-append xs (x ∷ [])))

pub kept_full : {A : Type 0} (xs : List A) (x : A) → length xs ≡ 128 → take 128 (xs ++ x ∷ []) ≡ xs
kept_full xs x full = take_at xs (x ∷ []) 128 full

take_twice : {A : Type 0} (n : ℕ) (xs : List A) (x : A) → take n (take n xs ++ x ∷ []) ≡ take n (xs ++ x ∷ [])
take_twice zero xs x = refl
take_twice (suc n) [] x = refl
take_twice {A} (suc n) (y ∷ xs) x = ap (λ (ys : List A). y ∷ ys) (take_twice n xs x)

pub kept_more : {A : Type 0} (kept front : List A) (x : A) (next : List A) → kept ≡ take 128 front → next ≡ take 128 (kept ++ x ∷ []) → next ≡ take 128 (front ++ x ∷ [])
kept_more {A} kept front x next h k = k ∙ ap (λ (ys : List A). take 128 (ys ++ x ∷ [])) h ∙ take_twice 128 front x

pub lie_push : (i j : ℕ) (fs : List HeaderSpan) (f : HeaderSpan) → LieFrom i fs j → f.whole.from ≡ j → LieFrom i (fs ++ f ∷ []) f.whole.to
lie_push i j [] f lie from = (from ∙ sym lie, refl)
lie_push i j (g ∷ fs) f lie from = (lie.0, lie_push g.whole.to j fs f lie.1 from)

pub each_push : (text : List ℕ) (fs : List HeaderSpan) (f : HeaderSpan) → All (IsField text) fs → IsField text f → All (IsField text) (fs ++ f ∷ [])
each_push text fs f each one = λ k d lt. elim (cases_lt k (length fs)) [
  | inl low ↦ rw (get_or_append_left fs (f ∷ []) d k low) (each k d low)
  | inr high ↦ let last : length fs ≡ k = omega (arith, length-append fs (f ∷ [])) in rw (get_or_at fs f [] d k last) one
]
