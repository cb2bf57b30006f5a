-- Words that stand for lists.
use Rattle.std.proofs.Common.{◌≡◌, ℕ, zero, suc, ◌+◌, ◌*◌, ◌/◌, ◌%◌, ◌<◌, ◌≤◌, eqb, true, false, cond, max, Option, Some, None, List, [], ◌∷◌, length, set, get_or, map, replicate, refl, sym, ap, ◌∙◌, subst, arith, add-one}
use Rattle.std.specs.Prelude.{nat_lt}
use Rattle.std.proofs.lemmas.Bool.{le-ltb, lt-ltb}
use Rattle.std.proofs.lemmas.List.{length-replicate}
use Rattle.claim_words.specs.declared.By.{By}
use Rattle.claim_words.specs.declared.ClaimEnd.{ClaimEnd}
use Rattle.claim_words.specs.declared.ClaimEnd.TheVariants.{Won}
use Rattle.claim_words.specs.Lists.{nth_list}
use Rattle.claim_words.specs.Suspensions.{most, opened, claimed, claim_end}
use Rattle.claim_words.specs.Words.{ways, code, word_of, end_by_word}
use Rattle.claim_words.specs.Alone.{AllSuspensions, StandFor, opened_at, serial_at, claimed_at}
use Rattle.claim_words.proofs.Items.{latest_of, opened_word, end_by_word_law, claimed_won, claimed_lost}

stands_at : (ls : AllSuspensions) (k : ℕ) → get_or (map word_of ls) k 0 ≡ word_of (nth_list ls k)
stands_at [] k = refl
stands_at (x ∷ xs) zero = refl
stands_at (x ∷ xs) (suc k) = stands_at xs k

stands_set : (ls : AllSuspensions) (k : ℕ) (x : List (Option By)) → set (map word_of ls) k (word_of x) ≡ map word_of (set ls k x)
stands_set [] k x = refl
stands_set (y ∷ ys) zero x = refl
stands_set (y ∷ ys) (suc k) x = ap (λ (l : List ℕ). word_of y ∷ l) (stands_set ys k x)

set_same : (ws : List ℕ) (k : ℕ) → ws ≡ set ws k (get_or ws k 0)
set_same [] k = refl
set_same (w ∷ ws) zero = refl
set_same (w ∷ ws) (suc k) = ap (λ (l : List ℕ). w ∷ l) (set_same ws k)

default : (ws : List ℕ) (k n : ℕ) → k < length ws → n ≡ get_or ws k n → n ≡ get_or ws k 0
default [] k n l e = absurd (omega arith)
default (w ∷ ws) zero n l e = e
default (w ∷ ws) (suc k) n l e = default ws k n (omega arith) e

found : (ws : List ℕ) (ls : AllSuspensions) (k : ℕ) → StandFor ws ls → get_or ws k 0 ≡ word_of (nth_list ls k)
found ws ls k e = ap (λ z. get_or z k 0) e ∙ stands_at ls k

pub open_full : (ws : List ℕ) (ls : AllSuspensions) (k n : ℕ) → StandFor ws ls → k < length ws → n ≡ get_or ws k n → most ≤ n / ways → (most ≡ serial_at ls k) × StandFor ws (opened_at ls k)
open_full ws ls k n e inside at_k full =
    let is = default ws k n inside at_k in
    let l : n / ways ≡ length (nth_list ls k) = ap (λ z. z / ways) (is ∙ found ws ls k e) ∙ latest_of (nth_list ls k) in
    let b : nat_lt (length (nth_list ls k)) most ≡ false = le-ltb (length (nth_list ls k)) most (omega arith) in
    (sym (ap (λ t. cond t (length (nth_list ls k) + 1) most) b), e ∙ ap (map word_of) (sym (ap (λ t. cond t (set ls k (opened (nth_list ls k))) ls) b)))

pub open_room : (ws ws' : List ℕ) (ls : AllSuspensions) (k n : ℕ) → StandFor ws ls → k < length ws → n ≡ get_or ws k n → n / ways < most → ws' ≡ set ws k (ways * (n / ways + 1)) → (n / ways + 1 ≡ serial_at ls k) × StandFor ws' (opened_at ls k)
open_room ws ws' ls k n e inside at_k room new =
    let is = default ws k n inside at_k in
    let l : n / ways ≡ length (nth_list ls k) = ap (λ z. z / ways) (is ∙ found ws ls k e) ∙ latest_of (nth_list ls k) in
    let b : nat_lt (length (nth_list ls k)) most ≡ true = lt-ltb (length (nth_list ls k)) most (omega arith) in (
      ap (λ z. z + 1) l ∙ sym (ap (λ t. cond t (length (nth_list ls k) + 1) most) b),
      new ∙ (ap (λ z. set ws k (ways * (z + 1))) l ∙ (ap (set ws k) (sym (opened_word (nth_list ls k))) ∙ (ap (λ z. set z k (word_of (opened (nth_list ls k)))) e ∙ (stands_set ls k (opened (nth_list ls k)) ∙ ap (map word_of) (sym (ap (λ t. cond t (set ls k (opened (nth_list ls k))) ls) b)))))),
    )

module _ (ws : List ℕ) (ls : AllSuspensions) (k s : ℕ) (by : By) (n : ℕ) (e : StandFor ws ls) (inside : k < length ws) (at_k : n ≡ get_or ws k n) where
  is : n ≡ get_or ws k 0
  is = default ws k n inside at_k

  pub claim_answers : end_by_word n s ≡ claim_end (nth_list ls k) s
  claim_answers = ap (λ z. end_by_word z s) (is ∙ found ws ls k e) ∙ end_by_word_law (nth_list ls k) s

  pub claim_wins : (p : ℕ) → Won p ≡ end_by_word n s → (ws' : List ℕ) → ws' ≡ set ws k (n + code by) → StandFor ws' (claimed_at ls k s by)
  claim_wins p won ws' new = new ∙ (ap (λ z. set ws k (z + code by)) (is ∙ found ws ls k e) ∙ (ap (set ws k) (sym (claimed_won (nth_list ls k) s by p (won ∙ claim_answers))) ∙ (ap (λ z. set z k (word_of (claimed (nth_list ls k) s by))) e ∙ stands_set ls k (claimed (nth_list ls k) s by))))

  pub claim_loses : ((p : ℕ) → ¬ (Won p ≡ end_by_word n s)) → StandFor ws (claimed_at ls k s by)
  claim_loses lost = set_same ws k ∙ (ap (set ws k) (found ws ls k e ∙ sym (claimed_lost (nth_list ls k) s by (λ p w. lost p (w ∙ sym claim_answers)))) ∙ (ap (λ z. set z k (word_of (claimed (nth_list ls k) s by))) e ∙ stands_set ls k (claimed (nth_list ls k) s by)))

pub plain_new : (n : ℕ) (ws : List ℕ) → ws ≡ replicate n 0 → (length ws ≡ n) × StandFor ws (replicate n [])
plain_new n ws e = (ap length e ∙ length-replicate n 0, e ∙ zeros n)
  where
    zeros : (m : ℕ) → ◌≡◌ {A = List ℕ} (replicate m 0) (map word_of (replicate m []))
    zeros zero = refl
    zeros (suc m) = ap (λ (l : List ℕ). 0 ∷ l) (zeros m)
