-- Suspensions, histories and words.
use Rattle.std.proofs.Common.{◌≡◌, ◌≢◌, ◌⊎◌, ℕ, zero, suc, ◌+◌, ◌-◌, ◌*◌, ◌/◌, ◌%◌, ◌<◌, ◌≤◌, eqb, max, Bool, true, false, cond, ◌||◌, Option, Some, None, List, [], ◌∷◌, ◌++◌, length, set, get_or, refl, sym, ap, ◌∙◌, subst, inl, inr, ⊎_elim, arith, length-set, length-append, eq-eqb, ne_eqb, get_or-set_same, get_or-set_other, append_assoc, add-one}
use Rattle.std.specs.Prelude.{nat_lt}
use Rattle.std.proofs.lemmas.Bool.{lt-ltb, le-ltb}
use mathlib.Core.Logic.{dite}
use native.Mathlib.Decide.{ℕ_discrete, dec_lt}
use prog.Atomic.{either}
use Rattle.claim_words.specs.declared.By.{By}
use Rattle.claim_words.specs.declared.By.TheVariants.{Continued, TimedOut, Cancelled}
use Rattle.claim_words.specs.declared.ClaimEnd.{ClaimEnd}
use Rattle.claim_words.specs.declared.ClaimEnd.TheVariants.{Won, Lost, Past, Unknown}
use Rattle.claim_words.specs.declared.ClaimRecord.{ClaimRecord}
use Rattle.claim_words.specs.declared.ClaimRecord.TheVariants.{Opened, Claimed}
use Rattle.histories.specs.Runs.{folded, EachAnswers}
use Rattle.histories.specs.Records.{recorded, records}
use Rattle.histories.proofs.Lists.{records_append}
use Rattle.claim_words.specs.Suspensions.{suspension, ended_by, opened, claimed, end_at, claim_end, after, suspensions, IsAnswer, ClaimEntry, IsClaimHistory}
use Rattle.claim_words.specs.Words.{ways, code, by_of, way_number, word_of, end_by_word}
use Rattle.claim_words.specs.Claims.{maker_of, author, made_by, of_slot}

-- What holds of each way: a new way adds a line to each of these four, and to `code` and `by_of`
pub code_small : (by : By) → code by < ways
code_small Continued = omega arith
code_small TimedOut = omega arith
code_small Cancelled = omega arith

pub code_some : (by : By) → 0 < code by
code_some Continued = omega arith
code_some TimedOut = omega arith
code_some Cancelled = omega arith

code_test : (by : By) → eqb (code by) 0 ≡ false
code_test Continued = refl
code_test TimedOut = refl
code_test Cancelled = refl

by_code : (by : By) → by_of (code by) ≡ by
by_code Continued = refl
by_code TimedOut = refl
by_code Cancelled = refl

state_small : (o : Option By) → way_number o < ways
state_small None = omega arith
state_small (Some by) = code_small by

state_zero : (o : Option By) → way_number o ≡ 0 → o ≡ None
state_zero None e = refl
state_zero (Some by) e = let l = code_some by in absurd (omega arith)

end_law : (o : Option By) (s : ℕ) → cond (eqb (way_number o) 0) (Won (s - 1)) (Lost (by_of (way_number o))) ≡ end_at o s
end_law None s = refl
end_law (Some by) s = (λ i. cond (code_test by i) (Won (s - 1)) (Lost (by_code by i)))

none_some : {A : Type 0} (a : A) → None ≡ Some a → ⊥
none_some a e = cc

module _ {A : Type 0} where
  get_below : (xs : List (Option A)) (n : ℕ) (a : A) → get_or xs n None ≡ Some a → n < length xs
  get_below [] n a e = absurd (none_some a e)
  get_below (x ∷ xs) zero a e = omega arith
  get_below (x ∷ xs) (suc n) a e = let t = get_below xs n a e in omega arith

  get_before : (xs ys : List (Option A)) (n : ℕ) (a : A) → get_or xs n None ≡ Some a → get_or (xs ++ ys) n None ≡ Some a
  get_before [] ys n a e = absurd (none_some a e)
  get_before (x ∷ xs) ys zero a e = e
  get_before (x ∷ xs) ys (suc n) a e = get_before xs ys n a e

  get_end : (xs : List (Option A)) → get_or (xs ++ None ∷ []) (length xs) None ≡ None
  get_end [] = refl
  get_end (x ∷ xs) = get_end xs

pub item_below : (xs : List (Option By)) (s : ℕ) (b : By) → suspension xs s ≡ Some b → s ≤ length xs
item_below xs zero b e = omega arith
item_below xs (suc s) b e = let t = get_below xs s b e in omega arith

pub opened_length : (xs : List (Option By)) → length (opened xs) ≡ length xs + 1
opened_length xs = length-append xs (None ∷ [])

pub claimed_length : (xs : List (Option By)) (s : ℕ) (by : By) → length (claimed xs s by) ≡ length xs
claimed_length xs s by = elim (eqb s (length xs)) as (λ b. length (cond b (set xs (s - 1) (ended_by (suspension xs s) by)) xs) ≡ length xs) [
  | true ↦ length-set xs (s - 1) (ended_by (suspension xs s) by)
  | false ↦ refl
]

pub claimed_other : (xs : List (Option By)) (s : ℕ) (by : By) → s ≢ length xs → claimed xs s by ≡ xs
claimed_other xs s by ne = ap (λ b. cond b (set xs (s - 1) (ended_by (suspension xs s) by)) xs) (ne_eqb s (length xs) ne)

pub claimed_same : (xs : List (Option By)) (s : ℕ) (by : By) → s ≡ length xs → claimed xs s by ≡ set xs (s - 1) (ended_by (suspension xs s) by)
claimed_same xs s by e = ap (λ b. cond b (set xs (s - 1) (ended_by (suspension xs s) by)) xs) (eq-eqb s (length xs) e)

claimed_at : (xs : List (Option By)) (n : ℕ) (by : By) → suc n ≡ length xs → claimed xs (suc n) by ≡ set xs n (ended_by (suspension xs (suc n)) by)
claimed_at xs n by e = claimed_same xs (suc n) by e ∙ ap (λ (m : ℕ). set xs m (ended_by (suspension xs (suc n)) by)) (let p : suc n - 1 ≡ n = omega arith in p)

-- the newest suspension after a claim of it
pub newest_claimed : (xs : List (Option By)) (s : ℕ) (by : By) → s ≡ length xs → 0 < s → suspension (claimed xs s by) s ≡ ended_by (suspension xs s) by
newest_claimed xs zero by e l = absurd (omega arith)
newest_claimed xs (suc n) by e l = ap (λ z. suspension z (suc n)) (claimed_at xs n by e) ∙ get_or-set_same xs n (ended_by (suspension xs (suc n)) by) None (omega arith)

-- what has ended stays
item_claimed : (xs : List (Option By)) (s t : ℕ) (by b : By) → suspension xs s ≡ Some b → suspension (claimed xs t by) s ≡ Some b
item_claimed xs zero t by b e = absurd (none_some b e)
item_claimed xs (suc n) t by b e = dite (ℕ_discrete t (length xs))
    (λ is. dite (ℕ_discrete t (suc n))
    (λ same. subst (λ (z : ℕ). suspension (claimed xs z by) (suc n) ≡ Some b) (sym same) (newest_claimed xs (suc n) by (sym same ∙ is) (omega arith) ∙ ap (λ o. ended_by o by) e))
    (λ ne. let below = get_below xs n b e in ap (λ z. suspension z (suc n)) (claimed_same xs t by is) ∙ (get_or-set_other xs (t - 1) n (ended_by (suspension xs t) by) None (λ q. ne (omega arith)) ∙ e)))
    (λ ne. ap (λ z. suspension z (suc n)) (claimed_other xs t by ne) ∙ e)

item_after : (xs : List (Option By)) (r : ClaimRecord) (s : ℕ) (b : By) → suspension xs s ≡ Some b → suspension (after xs r) s ≡ Some b
item_after xs (Opened t) zero b is = absurd (none_some b is)
item_after xs (Opened t) (suc s) b is = get_before xs (None ∷ []) s b is
item_after xs (Claimed t by end) s b is = item_claimed xs s t by b is

item_from : (xs : List (Option By)) (es : List ClaimRecord) (s : ℕ) (b : By) → suspension xs s ≡ Some b → suspension (folded after xs es) s ≡ Some b
item_from xs [] s b is = is
item_from xs (e ∷ es) s b is = item_from (after xs e) es s b (item_after xs e s b is)

folded-append : (xs : List (Option By)) (h g : List ClaimRecord) → folded after xs (h ++ g) ≡ folded after (folded after xs h) g
folded-append xs [] g = refl
folded-append xs (e ∷ h) g = folded-append (after xs e) h g

suspensions-append : (h g : List ClaimEntry) → suspensions (h ++ g) ≡ folded after (suspensions h) (records g)
suspensions-append h g = ap (folded after []) (records_append h g) ∙ folded-append [] (records h) (records g)

-- the suspensions after one more record
pub suspensions_more : (h : List ClaimEntry) (e : ClaimEntry) → suspensions (h ++ e ∷ []) ≡ after (suspensions h) e.what
suspensions_more h e = suspensions-append h (e ∷ [])

pub item_more : (h g : List ClaimEntry) (s : ℕ) (b : By) → suspension (suspensions h) s ≡ Some b → suspension (suspensions (h ++ g)) s ≡ Some b
item_more h g s b is = ap (λ z. suspension z s) (suspensions-append h g) ∙ item_from (suspensions h) (records g) s b is

length_after : (xs : List (Option By)) (r : ClaimRecord) → length xs ≤ length (after xs r)
length_after xs (Opened s) = let p = opened_length xs in omega arith
length_after xs (Claimed s by end) = let p = claimed_length xs s by in omega arith

length_from : (xs : List (Option By)) (es : List ClaimRecord) → length xs ≤ length (folded after xs es)
length_from xs [] = omega arith
length_from xs (e ∷ es) = let a = length_after xs e in let b = length_from (after xs e) es in omega arith

pub length_more : (h g : List ClaimEntry) → length (suspensions h) ≤ length (suspensions (h ++ g))
length_more h g = let p = ap length (suspensions-append h g) in let q = length_from (suspensions h) (records g) in omega arith

answers-append : (xs : List (Option By)) (h : List ClaimRecord) (r : ClaimRecord) → EachAnswers IsAnswer after xs h → IsAnswer (folded after xs h) r → EachAnswers IsAnswer after xs (h ++ r ∷ [])
answers-append xs [] r l a = (a, tt)
answers-append xs (x ∷ h) r l a = (l.0, answers-append (after xs x) h r l.1 a)

-- a right answer goes on a history
pub history_more : (h : List ClaimEntry) (e : ClaimEntry) → IsClaimHistory h → IsAnswer (suspensions h) e.what → IsClaimHistory (h ++ e ∷ [])
history_more h e l a = subst (EachAnswers IsAnswer after []) (sym (records_append h (e ∷ []))) (answers-append [] (records h) e.what l a)

pub latest_of : (xs : List (Option By)) → word_of xs / ways ≡ length xs
latest_of xs = let l = state_small (suspension xs (length xs)) in omega arith

pub state_at : (xs : List (Option By)) → word_of xs % ways ≡ way_number (suspension xs (length xs))
state_at xs = let l = state_small (suspension xs (length xs)) in omega arith

first_decides : (b c : Bool) (u p x y : ClaimEnd) → (b ≡ true) ⊎ (c ≡ true) → cond b u (cond c p x) ≡ cond b u (cond c p y)
first_decides true c u p x y t = refl
first_decides false true u p x y t = refl
first_decides false false u p x y t = absurd (⊎_elim (λ (e : false ≡ true). apart e) (λ (e : false ≡ true). apart e) t)
  where
    apart : false ≡ true → ⊥
    apart e = cc

or_right : (a b : Bool) → b ≡ true → (a || b) ≡ true
or_right true b e = refl
or_right false b e = e

-- the answer at a word is the answer of its list
pub end_by_word_law : (xs : List (Option By)) (s : ℕ) → end_by_word (word_of xs) s ≡ claim_end xs s
end_by_word_law xs s =
    let l = latest_of xs in
    let m = state_at xs in
    let Inner : ClaimEnd = cond (eqb (word_of xs % ways) 0) (Won (s - 1)) (Lost (by_of (word_of xs % ways))) in
    let same : end_by_word (word_of xs) s ≡ cond (eqb s 0 || nat_lt (length xs) s) Unknown (cond (nat_lt s (length xs)) (Past (length xs)) Inner) = λ i. cond (eqb s 0 || nat_lt (l i) s) Unknown (cond (nat_lt s (l i)) (Past (l i)) Inner) in
    same ∙ dite (ℕ_discrete s (length xs))
    (λ e. ap (λ z. cond (eqb s 0 || nat_lt (length xs) s) Unknown (cond (nat_lt s (length xs)) (Past (length xs)) z))
    (ap (λ z. cond (eqb z 0) (Won (s - 1)) (Lost (by_of z))) (m ∙ ap (λ z. way_number (suspension xs z)) (sym e)) ∙ end_law (suspension xs s) s))
    (λ ne. first_decides (eqb s 0 || nat_lt (length xs) s) (nat_lt s (length xs)) Unknown (Past (length xs)) Inner (end_at (suspension xs s) s)
    (dite (dec_lt s (length xs)) (λ lt. inr (lt-ltb s (length xs) lt)) (λ not. inl (or_right (eqb s 0) (nat_lt (length xs) s) (lt-ltb (length xs) s (omega arith))))))

pub opened_word : (xs : List (Option By)) → word_of (opened xs) ≡ ways * (length xs + 1)
opened_word xs =
    let n = opened_length xs in
    let o : suspension (opened xs) (length (opened xs)) ≡ None = ap (suspension (opened xs)) (n ∙ add-one (length xs)) ∙ get_end xs in
    let p : way_number (suspension (opened xs) (length (opened xs))) ≡ 0 = ap way_number o in omega arith

pub raised : (xs : List (Option By)) → max (word_of xs) (ways * (length xs + 1)) ≡ word_of (opened xs)
raised xs = let l = state_small (suspension xs (length xs)) in let p = opened_word xs in omega arith

claimed_word : (xs : List (Option By)) (s : ℕ) (by : By) → s ≡ length xs → 0 < s → word_of (claimed xs s by) ≡ ways * s + way_number (ended_by (suspension xs s) by)
claimed_word xs s by e l = let n : length (claimed xs s by) ≡ s = claimed_length xs s by ∙ sym e in
    (λ i. ways * n i + way_number (suspension (claimed xs s by) (n i))) ∙ ap (λ o. ways * s + way_number o) (newest_claimed xs s by e l)

kept_state : (o : Option By) (by : By) → way_number o ≢ 0 → way_number (ended_by o by) ≡ way_number o
kept_state None by ne = absurd (ne refl)
kept_state (Some b) by ne = refl

-- the exchange of a claim
pub exchanged : (xs : List (Option By)) (s : ℕ) (by : By) → 0 < s → either (eqb (word_of xs) (ways * s)) (ways * s + code by) (word_of xs) ≡ word_of (claimed xs s by)
exchanged xs s by some_serial =
    let small = state_small (suspension xs (length xs)) in
    dite (ℕ_discrete (word_of xs) (ways * s))
    (λ e. let n : s ≡ length xs = omega arith in
    let z : way_number (suspension xs (length xs)) ≡ 0 = omega arith in
    let free : suspension xs s ≡ None = ap (suspension xs) n ∙ state_zero (suspension xs (length xs)) z in
    ap (λ b. either b (ways * s + code by) (word_of xs)) (eq-eqb (word_of xs) (ways * s) e) ∙ sym (claimed_word xs s by n some_serial ∙ ap (λ o. ways * s + way_number (ended_by o by)) free))
    (λ ne. ap (λ b. either b (ways * s + code by) (word_of xs)) (ne_eqb (word_of xs) (ways * s) ne) ∙ sym (dite (ℕ_discrete s (length xs))
    (λ n. let o : way_number (suspension xs s) ≢ 0 = (λ z. ne (let q : way_number (suspension xs (length xs)) ≡ 0 = ap (λ y. way_number (suspension xs y)) (sym n) ∙ z in omega arith)) in
    claimed_word xs s by n some_serial ∙ (ap (λ z. ways * s + z) (kept_state (suspension xs s) by o) ∙ (λ i. ways * n i + way_number (suspension xs (n i)))))
    (λ apart. ap word_of (claimed_other xs s by apart))))

-- a claim that comes too early or is of serial 0 leaves the suspensions
pub missed : (xs : List (Option By)) (s : ℕ) (by : By) → (s ≡ 0) ⊎ (length xs < s) → claimed xs s by ≡ xs
missed [] zero by t = refl
missed (x ∷ xs) zero by t = claimed_other (x ∷ xs) zero by (λ e. omega arith)
missed xs (suc s) by t = claimed_other xs (suc s) by (λ e. ⊎_elim (λ (z : suc s ≡ 0). omega arith) (λ (l : length xs < suc s). omega arith) t)

pub unknown : (xs : List (Option By)) (s : ℕ) → (s ≡ 0) ⊎ (length xs < s) → claim_end xs s ≡ Unknown
unknown xs s t = ap (λ b. cond b Unknown (cond (nat_lt s (length xs)) (Past (length xs)) (end_at (suspension xs s) s)))
    (⊎_elim (λ (z : s ≡ 0). or_left (eqb s 0) (nat_lt (length xs) s) (eq-eqb s 0 z)) (λ (l : length xs < s). or_right (eqb s 0) (nat_lt (length xs) s) (lt-ltb (length xs) s l)) t)
  where
    or_left : (a b : Bool) → a ≡ true → (a || b) ≡ true
    or_left true b e = refl
    or_left false b e = absurd (cc)

module _ (workers : ℕ) where
  pub listed-append : (n k : ℕ) (xs ys : List ClaimEntry) → made_by workers n k (xs ++ ys) ≡ made_by workers n k xs ++ made_by workers n k ys
  listed-append n k [] ys = refl
  listed-append n k (e ∷ xs) ys = elim (eqb (author workers k e) n) as (λ b. cond b (e ∷ made_by workers n k (xs ++ ys)) (made_by workers n k (xs ++ ys)) ≡ cond b (e ∷ made_by workers n k xs) (made_by workers n k xs) ++ made_by workers n k ys) [
    | true ↦ ap (λ (l : List ClaimEntry). e ∷ l) (listed-append n k xs ys)
    | false ↦ listed-append n k xs ys
  ]

  nil_ends : (xs : List ClaimEntry) → xs ++ [] ≡ xs
  nil_ends [] = refl
  nil_ends (x ∷ xs) = ap (λ (l : List ClaimEntry). x ∷ l) (nil_ends xs)

  pub listed_own : (n k : ℕ) (h : List ClaimEntry) (e : ClaimEntry) → author workers k e ≡ n → made_by workers n k (h ++ e ∷ []) ≡ made_by workers n k h ++ e ∷ []
  listed_own n k h e is = listed-append n k h (e ∷ []) ∙ ap (λ b. made_by workers n k h ++ cond b (e ∷ []) []) (eq-eqb (author workers k e) n is)

  pub listed_other : (n k : ℕ) (h : List ClaimEntry) (e : ClaimEntry) → author workers k e ≢ n → made_by workers n k (h ++ e ∷ []) ≡ made_by workers n k h
  listed_other n k h e ne = listed-append n k h (e ∷ []) ∙ (ap (λ b. made_by workers n k h ++ cond b (e ∷ []) []) (ne_eqb (author workers k e) n ne) ∙ nil_ends (made_by workers n k h))

given-append : (k : ℕ) (xs ys : List (ℕ × ClaimEntry)) → of_slot k (xs ++ ys) ≡ of_slot k xs ++ of_slot k ys
given-append k [] ys = refl
given-append k (x ∷ xs) ys = elim (eqb x.0 k) as (λ b. cond b (x.1 ∷ of_slot k (xs ++ ys)) (of_slot k (xs ++ ys)) ≡ cond b (x.1 ∷ of_slot k xs) (of_slot k xs) ++ of_slot k ys) [
  | true ↦ ap (λ (l : List ClaimEntry). x.1 ∷ l) (given-append k xs ys)
  | false ↦ given-append k xs ys
]

pub given_own : (k : ℕ) (xs : List (ℕ × ClaimEntry)) (e : ClaimEntry) → of_slot k (xs ++ (k, e) ∷ []) ≡ of_slot k xs ++ e ∷ []
given_own k xs e = given-append k xs ((k, e) ∷ []) ∙ ap (λ b. of_slot k xs ++ cond b (e ∷ []) []) (eq-eqb k k refl)

pub given_other : (i k : ℕ) (xs : List (ℕ × ClaimEntry)) (e : ClaimEntry) → i ≢ k → of_slot i (xs ++ (k, e) ∷ []) ≡ of_slot i xs
given_other i k xs e ne = given-append i xs ((k, e) ∷ []) ∙ (ap (λ b. of_slot i xs ++ cond b (e ∷ []) []) (ne_eqb k i (λ q. ne (sym q))) ∙ ends (of_slot i xs))
  where
    ends : (ys : List ClaimEntry) → ys ++ [] ≡ ys
    ends [] = refl
    ends (y ∷ ys) = ap (λ (l : List ClaimEntry). y ∷ l) (ends ys)

differ : {p : ℕ} → Won p ≡ Unknown → ⊥
differ e = cc

differ_past : {p n : ℕ} → Won p ≡ Past n → ⊥
differ_past e = cc

differ_lost : {p : ℕ} {b : By} → Won p ≡ Lost b → ⊥
differ_lost e = cc

-- the answer to a claim of the newest suspension, and of an earlier one
pub claim_at : (xs : List (Option By)) (s : ℕ) → s ≡ length xs → 0 < s → claim_end xs s ≡ end_at (suspension xs s) s
claim_at xs s n l =
    let a : eqb s 0 ≡ false = ne_eqb s 0 (λ (z : s ≡ 0). omega arith) in
    let b : nat_lt (length xs) s ≡ false = le-ltb (length xs) s (omega arith) in
    let c : nat_lt s (length xs) ≡ false = le-ltb s (length xs) (omega arith) in
    λ i. cond (a i || b i) Unknown (cond (c i) (Past (length xs)) (end_at (suspension xs s) s))

claim_past : (xs : List (Option By)) (s : ℕ) → s < length xs → 0 < s → claim_end xs s ≡ Past (length xs)
claim_past xs s lt l =
    let a : eqb s 0 ≡ false = ne_eqb s 0 (λ (z : s ≡ 0). omega arith) in
    let b : nat_lt (length xs) s ≡ false = le-ltb (length xs) s (omega arith) in
    let c : nat_lt s (length xs) ≡ true = lt-ltb s (length xs) lt in
    λ i. cond (a i || b i) Unknown (cond (c i) (Past (length xs)) (end_at (suspension xs s) s))

-- a claim that was won is of the newest suspension, which was open
pub won_is : (xs : List (Option By)) (s p : ℕ) → Won p ≡ claim_end xs s → (s ≡ length xs) × (0 < s) × (suspension xs s ≡ None)
won_is xs s p e = dite (dec_lt 0 s)
    (λ some_serial. dite (ℕ_discrete s (length xs))
    (λ n. (n, some_serial, at_item (suspension xs s) (λ b is. differ_lost (e ∙ (claim_at xs s n some_serial ∙ ap (λ o. end_at o s) is)))))
    (λ ne. absurd (dite (dec_lt s (length xs))
    (λ lt. differ_past (e ∙ claim_past xs s lt some_serial))
    (λ not. differ (e ∙ unknown xs s (inr (omega arith)))))))
    (λ zero. absurd (differ (e ∙ unknown xs s (inl (omega arith)))))
  where
    at_item : (o : Option By) → ((b : By) → o ≡ Some b → ⊥) → o ≡ None
    at_item None f = refl
    at_item (Some b) f = absurd (f b refl)

pub claimed_won : (xs : List (Option By)) (s : ℕ) (by : By) (p : ℕ) → Won p ≡ claim_end xs s → word_of (claimed xs s by) ≡ word_of xs + code by
claimed_won xs s by p e = let t = won_is xs s p e in
    let a : word_of (claimed xs s by) ≡ ways * s + code by = claimed_word xs s by t.0 t.1 ∙ ap (λ o. ways * s + way_number (ended_by o by)) t.2 in
    let b : way_number (suspension xs (length xs)) ≡ 0 = ap (λ z. way_number (suspension xs z)) (sym t.0) ∙ ap way_number t.2 in
    let c = t.0 in omega arith

pub claimed_lost : (xs : List (Option By)) (s : ℕ) (by : By) → ((p : ℕ) → ¬ (Won p ≡ claim_end xs s)) → word_of (claimed xs s by) ≡ word_of xs
claimed_lost xs s by lost = dite (dec_lt 0 s)
    (λ some_serial. dite (ℕ_discrete s (length xs))
    (λ n. claimed_word xs s by n some_serial ∙ (ap (λ z. ways * s + z) (had (suspension xs s) (λ none. lost (s - 1) (sym (claim_at xs s n some_serial ∙ ap (λ o. end_at o s) none)))) ∙ (λ i. ways * n i + way_number (suspension xs (n i)))))
    (λ ne. ap word_of (claimed_other xs s by ne)))
    (λ zero. ap word_of (missed xs s by (inl (omega arith))))
  where
    had : (o : Option By) → (o ≡ None → ⊥) → way_number (ended_by o by) ≡ way_number o
    had None f = absurd (f refl)
    had (Some b) f = refl

-- who won a claim has seen it
pub won_seen : (h : List ClaimEntry) (j s p : ℕ) (by : By) (end : ClaimEnd) → Won p ≡ claim_end (suspensions h) s → suspension (suspensions (h ++ recorded j (Claimed s by end) ∷ [])) s ≡ Some by
won_seen h j s p by end e = let t = won_is (suspensions h) s p e in
    ap (λ z. suspension z s) (suspensions_more h (recorded j (Claimed s by end))) ∙ (newest_claimed (suspensions h) s by t.0 t.1 ∙ ap (λ o. ended_by o by) t.2)

pub nonempty : {A : Type 0} {x : A} {l : List A} → x ∷ l ≡ [] → ⊥
nonempty e = cc

rest_empty : (b : Bool) (e : ClaimEntry) (l : List ClaimEntry) → cond b (e ∷ l) l ≡ [] → l ≡ []
rest_empty true e l q = absurd (nonempty q)
rest_empty false e l q = q

-- a record that the Opener did not make opens nothing
no_open : (workers k worker : ℕ) (r : ClaimRecord) (e : ClaimEntry) (l : List ClaimEntry) (xs : List (Option By)) → cond (eqb (maker_of workers k worker r) (workers + k)) (e ∷ l) l ≡ [] → (l ≡ []) × (length (after xs r) ≡ length xs)
no_open workers k worker (Opened s) e l xs q = absurd (nonempty (sym (ap (λ b. cond b (e ∷ l) l) (eq-eqb (workers + k) (workers + k) refl)) ∙ q))
no_open workers k worker (Claimed s by end) e l xs q = (rest_empty (eqb worker (workers + k)) e l q, claimed_length xs s by)

-- a slot whose Opener made no record has no suspension
pub no_opens : (workers k : ℕ) (xs : List (Option By)) (h : List ClaimEntry) → made_by workers (workers + k) k h ≡ [] → length (folded after xs (records h)) ≡ length xs
no_opens workers k xs [] q = refl
no_opens workers k xs (e ∷ es) q =
    let t = no_open workers k e.by e.what e (made_by workers (workers + k) k es) xs q in
    no_opens workers k (after xs e.what) es t.0 ∙ t.1
