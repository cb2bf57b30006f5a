-- Lists of lists, and beginnings.
use Rattle.std.proofs.Common.{◌≡◌, ◌≢◌, ◌⊎◌, ℕ, zero, suc, ◌+◌, ◌<◌, ◌≤◌, true, false, Bool, cond, List, [], ◌∷◌, ◌++◌, length, refl, sym, ap, ◌∙◌, subst, inl, inr, ⊎_elim, arith, append_assoc, length-append}
use Rattle.std.proofs.lemmas.List.{nil_from_length}
use Rattle.std.proofs.lemmas.Bool.{ltb-true, ltb-false, le-ltb, lt-ltb}
use Rattle.std.specs.Prelude.{nat_lt}
use mathlib.Core.Option.{some, some-injective, some-ne-none}
use lib.ListN.{get_elem?}
use mathlib.Core.List.{IsPrefix}
use Rattle.claim_words.specs.Lists.{nth_list, with_nth_list, longer_lists}

module _ {A : Type 0} where
  pub nth_list-with_nth_list_same : (xs : List (List A)) (k : ℕ) (h : List A) → nth_list (with_nth_list xs k h) k ≡ h
  nth_list-with_nth_list_same [] zero h = refl
  nth_list-with_nth_list_same [] (suc k) h = nth_list-with_nth_list_same [] k h
  nth_list-with_nth_list_same (x ∷ xs) zero h = refl
  nth_list-with_nth_list_same (x ∷ xs) (suc k) h = nth_list-with_nth_list_same xs k h

  pub nth_list-with_nth_list_other : (xs : List (List A)) (j k : ℕ) (h : List A) → j ≢ k → nth_list (with_nth_list xs k h) j ≡ nth_list xs j
  nth_list-with_nth_list_other [] zero zero h n = absurd (n refl)
  nth_list-with_nth_list_other [] zero (suc k) h n = refl
  nth_list-with_nth_list_other [] (suc j) zero h n = refl
  nth_list-with_nth_list_other [] (suc j) (suc k) h n = nth_list-with_nth_list_other [] j k h (λ e. n (ap suc e))
  nth_list-with_nth_list_other (x ∷ xs) zero zero h n = absurd (n refl)
  nth_list-with_nth_list_other (x ∷ xs) zero (suc k) h n = refl
  nth_list-with_nth_list_other (x ∷ xs) (suc j) zero h n = refl
  nth_list-with_nth_list_other (x ∷ xs) (suc j) (suc k) h n = nth_list-with_nth_list_other xs j k h (λ e. n (ap suc e))

  pub begins_all : (xs : List A) → IsPrefix xs xs
  begins_all [] = ([], refl)
  begins_all (x ∷ xs) = let t = begins_all xs in (t.0, ap (λ (l : List A). x ∷ l) t.1)

  pub begins_more : (xs ys zs : List A) → IsPrefix xs ys → IsPrefix xs (ys ++ zs)
  begins_more xs ys zs t = (t.0 ++ zs, sym (append_assoc xs t.0 zs) ∙ ap (λ (l : List A). l ++ zs) t.1)

  pub at_below : (l : List A) (i : ℕ) (a : A) → get_elem? l i ≡ some a → i < length l
  at_below [] i a e = absurd (some-ne-none a (sym e))
  at_below (x ∷ xs) zero a e = omega arith
  at_below (x ∷ xs) (suc i) a e = let t = at_below xs i a e in omega arith

  pub at_end : (l : List A) (a b : A) (j : ℕ) → get_elem? (l ++ a ∷ []) j ≡ some b → (get_elem? l j ≡ some b) ⊎ ((j ≡ length l) × (a ≡ b))
  at_end [] a b zero e = inr (refl, some-injective a b e)
  at_end [] a b (suc j) e = absurd (some-ne-none b (sym e))
  at_end (x ∷ xs) a b zero e = inl e
  at_end (x ∷ xs) a b (suc j) e = ⊎_elim (λ t. inl t) (λ (t : (j ≡ length xs) × (a ≡ b)). inr (ap suc t.0, t.1)) (at_end xs a b j e)

  pub at_there : (xs : List (List A)) (i : ℕ) → i < length xs → get_elem? xs i ≡ some (nth_list xs i)
  at_there [] i l = absurd (omega arith)
  at_there (x ∷ xs) zero l = refl
  at_there (x ∷ xs) (suc i) l = at_there xs i (omega arith)

  pub at_past : (xs : List (List A)) (i : ℕ) → length xs ≤ i → nth_list xs i ≡ []
  at_past [] i l = refl
  at_past (x ∷ xs) zero l = absurd (omega arith)
  at_past (x ∷ xs) (suc i) l = at_past xs i (omega arith)

  pub nil_ends : (xs : List A) → xs ++ [] ≡ xs
  nil_ends [] = refl
  nil_ends (x ∷ xs) = ap (λ (l : List A). x ∷ l) (nil_ends xs)

  never_shorter : (n : ℕ) (x : List A) → x ≡ cond (nat_lt n 0) [] x
  never_shorter n x = sym (ap (λ b. cond b [] x) (le-ltb n 0 (omega arith)))

  or_empty : (l : List A) → l ≡ cond (nat_lt 0 (length l)) l []
  or_empty [] = refl
  or_empty (x ∷ xs) = sym (ap (λ b. cond b (x ∷ xs) []) (lt-ltb 0 (length (x ∷ xs)) (omega arith)))

  pub nth_list-longer_lists : (xs ys : List (List A)) (k : ℕ) → nth_list (longer_lists xs ys) k ≡ cond (nat_lt (length (nth_list xs k)) (length (nth_list ys k))) (nth_list ys k) (nth_list xs k)
  nth_list-longer_lists [] ys k = or_empty (nth_list ys k)
  nth_list-longer_lists (x ∷ xs) [] zero = never_shorter (length x) x
  nth_list-longer_lists (x ∷ xs) [] (suc k) = never_shorter (length (nth_list xs k)) (nth_list xs k)
  nth_list-longer_lists (x ∷ xs) (y ∷ ys) zero = refl
  nth_list-longer_lists (x ∷ xs) (y ∷ ys) (suc k) = nth_list-longer_lists xs ys k

  begins_length : (v h : List A) → IsPrefix v h → length v ≤ length h
  begins_length v h b = let e : length v + length b.0 ≡ length h = sym (length-append v b.0) ∙ ap length b.1 in omega arith

  begins_whole : (v h : List A) → IsPrefix v h → length h ≤ length v → v ≡ h
  begins_whole v h b l = let e : length v + length b.0 ≡ length h = sym (length-append v b.0) ∙ ap length b.1 in
      let none_left : b.0 ≡ [] = nil_from_length b.0 (omega arith) in
      sym (nil_ends v) ∙ (ap (λ (r : List A). v ++ r) (sym none_left) ∙ b.1)

module _ {A : Type 0} (a b h : List A) where
  either_begins : IsPrefix a h → IsPrefix b h → (t : Bool) → IsPrefix (cond t b a) h
  either_begins p q true = q
  either_begins p q false = p

  best : IsPrefix a h → IsPrefix b h → (a ≡ h) ⊎ (b ≡ h) → (t : Bool) → nat_lt (length a) (length b) ≡ t → cond t b a ≡ h
  best p q known true is = ⊎_elim
      (λ (e : a ≡ h). let l = ltb-true (length a) (length b) is in let m = begins_length b h q in let n : length a ≡ length h = ap length e in absurd (omega arith))
      (λ e. e) known
  best p q known false is = ⊎_elim (λ e. e)
      (λ (e : b ≡ h). let l = ltb-false (length a) (length b) is in let n : length b ≡ length h = ap length e in begins_whole a h p (omega arith)) known

pub seen_best : {A : Type 0} (xs ys : List (List A)) (k : ℕ) (h : List A) → IsPrefix (nth_list xs k) h → IsPrefix (nth_list ys k) h → (nth_list xs k ≡ h) ⊎ (nth_list ys k ≡ h) → nth_list (longer_lists xs ys) k ≡ h
seen_best xs ys k h p q known = nth_list-longer_lists xs ys k ∙ best (nth_list xs k) (nth_list ys k) h p q known (nat_lt (length (nth_list xs k)) (length (nth_list ys k))) refl

pub seen_begins : {A : Type 0} (xs ys : List (List A)) (k : ℕ) (h : List A) → IsPrefix (nth_list xs k) h → IsPrefix (nth_list ys k) h → IsPrefix (nth_list (longer_lists xs ys) k) h
seen_begins {A} xs ys k h p q = subst (λ (z : List A). IsPrefix z h) (sym (nth_list-longer_lists xs ys k)) (either_begins (nth_list xs k) (nth_list ys k) h p q (nat_lt (length (nth_list xs k)) (length (nth_list ys k))))
