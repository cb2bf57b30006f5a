-- What is read of the lists: which is the first that has slots, and what is in one.
use Rattle.std.proofs.Common.{◌≡◌, ◌≢◌, ◌↔◌, ℕ, ◌+◌, ◌*◌, ◌/◌, ◌%◌, ◌^◌, ◌<◌, ◌≤◌, ◌⊎◌, Bool, true, false, ◌||◌, List, [], ◌∷◌, ◌++◌, Option, Some, None, MatchOption, IfSome, IfNone, IsTrue, eqb, length, get_or, refl, sym, ap, ◌∙◌, subst, inl, inr, ⊎_elim, arith, w64}
use Rattle.std.specs.Int.{bit_at, trailing_zeros}
use Rattle.std.specs.List.{list_any, IsDistinct}
use Rattle.std.proofs.lemmas.Bool.{cases_eq, cases_lt, false≢true, eqb-true, eq-eqb}
use Rattle.std.proofs.lemmas.Cmp.{nat_eq_equiv}
use Rattle.std.proofs.lemmas.Option.{none-some, same_Some, slice_get_within, slice_get-get_or, get_or_from_slice_get}
use Rattle.std.proofs.lemmas.List.{length-append}
use Rattle.std.proofs.lemmas.List.Folds.{list_any-append}
use Rattle.std.proofs.lemmas.Map.Keys.{IsDistinct-push, IsDistinct-from_apart}
use Rattle.std.proofs.lemmas.Map.Steps.{length-le_from_distinct_below}
use Rattle.std.proofs.lemmas.Nat.Bits.{bit_at-zero, bit_at-trailing_zeros}
use Rattle.timer_wheel.specs.declared.wheel.Timer.{Timer}
use Rattle.timer_wheel.specs.Timers.{Timers, HasTimer, GoesFirst}
use Rattle.timer_wheel.specs.Rings.{Places, IsIn, list_of, AreLists}
use Rattle.timer_wheel.specs.Wheels.{IsFirstIn, NoTimerIn}
use Rattle.timer_wheel.proofs.Rings.{is_head, reached, empty_list}
use Rattle.timer_wheel.proofs.Writes.{in_from_list, list_from_in}

-- the slot is among these
abbrev pub Among : List ℕ → ℕ → Type 0
Among seen q = list_any (eqb q) seen ≡ true

or_cases : (a b : Bool) → (a || b) ≡ true → (a ≡ true) ⊎ (b ≡ true)
or_cases true b e = inl refl
or_cases false b e = inr e

or_left : (a b : Bool) → a ≡ true → (a || b) ≡ true
or_left true b e = refl
or_left false b e = absurd (false≢true e)

or_right : (a b : Bool) → b ≡ true → (a || b) ≡ true
or_right true b e = refl
or_right false b e = e

push_cases : (seen : List ℕ) (node q : ℕ) → Among (seen ++ node ∷ []) q → Among seen q ⊎ (q ≡ node)
push_cases seen node q h = ⊎_elim inl (λ e. ⊎_elim (λ f. inr (eqb-true q node f)) (λ f. absurd (false≢true f)) (or_cases (eqb q node) false e))
    (or_cases (list_any (eqb q) seen) (eqb q node || false) (sym (list_any-append (eqb q) seen (node ∷ [])) ∙ h))

push_old : (seen : List ℕ) (node q : ℕ) → Among seen q → Among (seen ++ node ∷ []) q
push_old seen node q h = list_any-append (eqb q) seen (node ∷ []) ∙ or_left (list_any (eqb q) seen) (eqb q node || false) h

push_new : (seen : List ℕ) (node : ℕ) → Among (seen ++ node ∷ []) node
push_new seen node = list_any-append (eqb node) seen (node ∷ []) ∙ or_right (list_any (eqb node) seen) (eqb node node || false) (or_left (eqb node node) false (eq-eqb node node refl))

bool_cases : (b : Bool) → (b ≡ true) ⊎ (b ≡ false)
bool_cases true = inl refl
bool_cases false = inr refl

-- what was found among these slots
abbrev pub IsBest : Places → ℕ → Timers → List ℕ → Option (ℕ × Timer) → Type 0
IsBest places k timers seen found = MatchOption found ((q : ℕ) (timer : Timer) → Among seen q → ¬ HasTimer timers q timer)
    (λ p. IsIn places p.0 k × HasTimer timers p.0 p.1 × ((q : ℕ) (other : Timer) → Among seen q → HasTimer timers q other → GoesFirst p.1.due p.0 other.due q))

-- the ring of list k has been gone over from its head to this node
pub record HasPassed (places : Places) (next prev words : List ℕ) (timers : Timers) (k passed node : ℕ) (found : Option (ℕ × Timer)) : Type 0 where
  pub age : ℕ → ℕ
  pub lists : AreLists places next prev words age
  pub seen : List ℕ
  pub many : length seen ≡ passed
  pub apart : IsDistinct eqb seen
  pub slots : (q : ℕ) → Among seen q → (q < length places) × (list_of places q ≡ Some k)
  pub older : (q : ℕ) → Among seen q → node < length places → age q < age node
  pub onward : (q : ℕ) → (q ≡ length places + k) ⊎ Among seen q → (get_or next q 0 ≡ node) ⊎ Among seen (get_or next q 0)
  pub here : node < length places + 4096
  pub its_list : list_of places node ≡ Some k
  pub best : IsBest places k timers seen found

module _ (places : Places) (next prev words : List ℕ) (age : ℕ → ℕ) (L : AreLists places next prev words age) (k : ℕ) (k_lt : k < 4096) where
  pub front_in : get_or next (length places + k) 0 < length places + 4096
  front_in = L.rings.next_within (length places + k) (omega arith)

  pub front_list : list_of places (get_or next (length places + k) 0) ≡ Some k
  front_list = L.rings.one_list (length places + k) (omega arith) ∙ L.rings.head k

  -- the first node after the head is a slot of the list, or the head again
  pub front_slot : get_or next (length places + k) 0 ≢ length places + k → (get_or next (length places + k) 0 < length places) × IsIn places (get_or next (length places + k) 0) k
  front_slot n = ⊎_elim (λ l. (l, in_from_list places (get_or next (length places + k) 0) k l front_list))
      (λ l. absurd (n (is_head (length places) (length places + 4096) (λ i. get_or next i 0) (λ i. get_or prev i 0) (list_of places) age (omega arith) L.rings k (get_or next (length places + k) 0) l front_list)))
      (cases_lt (get_or next (length places + k) 0) (length places))

  pub front_none : get_or next (length places + k) 0 ≡ length places + k → (slot : ℕ) → ¬ IsIn places slot k
  front_none own slot e = empty_list (length places) (length places + 4096) (λ i. get_or next i 0) (λ i. get_or prev i 0) (list_of places) age (omega arith) L.rings k own slot
      (slice_get_within places slot (Some k) e) (list_from_in places slot k e)

  pub begins : (timers : Timers) → HasPassed places next prev words timers k 0 (get_or next (length places + k) 0) None
  begins timers = record {
    age = age;
    lists = L;
    seen = [];
    many = refl;
    apart = IsDistinct-from_apart eqb [] (λ i j d a b. absurd (omega arith));
    slots = λ q e. absurd (false≢true e);
    older = λ q e. absurd (false≢true e);
    onward = λ q c. ⊎_elim (λ e. inl (ap (λ x. get_or next x 0) e)) (λ e. absurd (false≢true e)) c;
    here = front_in;
    its_list = front_list;
    best = λ q timer e. absurd (false≢true e);
  }

module _ (places : Places) (next prev words : List ℕ) (timers : Timers) (k passed node : ℕ) (found : Option (ℕ × Timer)) (k_lt : k < 4096)
    (w : HasPassed places next prev words timers k passed node found) where
  pub is_end : length places ≤ node → node ≡ length places + k
  is_end l = is_head (length places) (length places + 4096) (λ i. get_or next i 0) (λ i. get_or prev i 0) (list_of places) w.age (omega arith) w.lists.rings k node l w.its_list

  pub is_slot : node ≢ length places + k → node < length places
  is_slot n = ⊎_elim (λ l. l) (λ l. absurd (n (is_end l))) (cases_lt node (length places))

  not_seen : node < length places → list_any (eqb node) w.seen ≡ false
  not_seen l = ⊎_elim (λ e. absurd (let o = w.older node e l in omega arith)) (λ e. e) (bool_cases (list_any (eqb node) w.seen))

  more_apart : node < length places → IsDistinct eqb (w.seen ++ node ∷ [])
  more_apart l = IsDistinct-push nat_eq_equiv w.seen node w.apart (not_seen l)

  more_slots : node < length places → (q : ℕ) → Among (w.seen ++ node ∷ []) q → (q < length places) × (list_of places q ≡ Some k)
  more_slots l q e = ⊎_elim (λ f. w.slots q f) (λ f. (subst (λ x. x < length places) (sym f) l, ap (list_of places) f ∙ w.its_list)) (push_cases w.seen node q e)

  -- as many as there are slots have been passed: the ring is closed
  pub all_passed : passed ≡ length places → node ≡ length places + k
  all_passed e = is_end (⊎_elim
      (λ l. absurd (let m = length-le_from_distinct_below (w.seen ++ node ∷ []) (length places) (more_apart l) (λ q f. (more_slots l q f).0) in
      let n = length-append w.seen (node ∷ []) in let o = w.many in omega arith))
      (λ l. l) (cases_lt node (length places)))

  pub moves : (found' : Option (ℕ × Timer)) → node ≢ length places + k → IsBest places k timers (w.seen ++ node ∷ []) found'
      → HasPassed places next prev words timers k (passed + 1) (get_or next node 0) found'
  moves found' n best = let l = is_slot n in let node_in = w.here in record {
    age = w.age;
    lists = w.lists;
    seen = w.seen ++ node ∷ [];
    many = length-append w.seen (node ∷ []) ∙ ap (λ x. x + 1) w.many;
    apart = more_apart l;
    slots = more_slots l;
    older = λ q e m.
        let its = w.lists.rings.one_list node node_in ∙ w.its_list in
        let b = w.lists.rings.back node node_in in
        let o : w.age node < w.age (get_or next node 0) = subst (λ x. w.age x < w.age (get_or next node 0)) b (w.lists.rings.older (get_or next node 0) k m its (subst (λ x. x < length places) (sym b) l)) in
        ⊎_elim (λ f. let p = w.older q f l in omega arith) (λ f. subst (λ x. w.age x < w.age (get_or next node 0)) (sym f) o) (push_cases w.seen node q e);
    onward = λ q c. ⊎_elim
        (λ e. ⊎_elim (λ f. inr (subst (Among (w.seen ++ node ∷ [])) (sym f) (push_new w.seen node))) (λ f. inr (push_old w.seen node (get_or next q 0) f)) (w.onward q (inl e)))
        (λ e. ⊎_elim
        (λ f. ⊎_elim (λ g. inr (subst (Among (w.seen ++ node ∷ [])) (sym g) (push_new w.seen node))) (λ g. inr (push_old w.seen node (get_or next q 0) g)) (w.onward q (inr f)))
        (λ f. inl (ap (λ x. get_or next x 0) f)) (push_cases w.seen node q e)) c;
    here = w.lists.rings.next_within node node_in;
    its_list = w.lists.rings.one_list node node_in ∙ w.its_list;
    best = best;
  }

  -- at the end each slot of the list has been passed
  pub covers : node ≡ length places + k → (slot : ℕ) → IsIn places slot k → Among w.seen slot
  covers end slot e =
      let l = slice_get_within places slot (Some k) e in
      let P : ℕ → Type 0 = λ i. (i ≡ length places + k) ⊎ Among w.seen i in
      let to : (i : ℕ) → (i ≡ length places + k) ⊎ Among w.seen i → P (get_or next i 0) = λ i c. ⊎_elim (λ f. inl (f ∙ end)) (λ f. inr f) (w.onward i c) in
      ⊎_elim (λ f. absurd (omega arith)) (λ f. f)
      (reached (length places) (length places + 4096) (λ i. get_or next i 0) (λ i. get_or prev i 0) (list_of places) w.age (omega arith) w.lists.rings k P
      (to (length places + k) (inl refl)) (λ i _ _ p. to i p) slot l (list_from_in places slot k e))

pub goes_on : (due slot due' slot' due'' slot'' : ℕ) → GoesFirst due slot due' slot' → GoesFirst due' slot' due'' slot'' → GoesFirst due slot due'' slot''
goes_on due slot due' slot' due'' slot'' a b = grind arith

pub goes_or : (due slot due' slot' : ℕ) → ¬ GoesFirst due slot due' slot' → GoesFirst due' slot' due slot
goes_or due slot due' slot' n = ⊎_elim (λ l. inl l)
    (λ l. ⊎_elim (λ e. inr (e, ⊎_elim (λ m. absurd (n (inr (sym e, omega arith)))) (λ m. m) (cases_lt slot slot')))
    (λ e. absurd (n (inl (omega arith)))) (cases_eq due' due))
    (cases_lt due' due)

timer_at : (timers : Timers) (node : ℕ) (timer : Option Timer) (other : Timer) → get_or timers node None ≡ timer → HasTimer timers node other → timer ≡ Some other
timer_at timers node timer other is h = sym is ∙ get_or_from_slice_get timers node (Some other) None h

has_timer : (timers : Timers) (node : ℕ) (timer : Timer) → node < length timers → get_or timers node None ≡ Some timer → HasTimer timers node timer
has_timer timers node timer l is = slice_get-get_or timers node None l ∙ ap (λ (x : Option Timer). Some x) is

-- the answer of the test on a slot's timer
abbrev pub GoesBefore : ℕ → Timer → Option (ℕ × Timer) → Bool → Type 0
GoesBefore slot timer found answer = MatchOption found (IsTrue answer) (λ other. IsTrue answer ↔ GoesFirst timer.due slot other.1.due other.0)

module _ (places : Places) (k : ℕ) (timers : Timers) (seen : List ℕ) (node : ℕ) where
  -- the next slot has no timer
  pub best_without : (found : Option (ℕ × Timer)) → get_or timers node None ≡ None → IsBest places k timers seen found → IsBest places k timers (seen ++ node ∷ []) found
  best_without None is best = λ q timer e h. ⊎_elim (λ f. best q timer f h) (λ f. none-some timer (timer_at timers node None timer is (subst (λ x. HasTimer timers x timer) f h))) (push_cases seen node q e)
  best_without (Some p) is best = (
    best.0,
    best.1,
    λ q other e h. ⊎_elim (λ f. best.2 q other f h)
        (λ f. absurd (none-some other (timer_at timers node None other is (subst (λ x. HasTimer timers x other) f h)))) (push_cases seen node q e),
  )

  at_node : (timer : Timer) → get_or timers node None ≡ Some timer → (q : ℕ) (other : Timer) → q ≡ node → HasTimer timers q other → timer ≡ other
  at_node timer is q other e h = same_Some timer other (timer_at timers node (Some timer) other is (subst (λ x. HasTimer timers x other) e h))

  -- its timer goes off before what was found
  pub best_new : (timer : Timer) (found : Option (ℕ × Timer)) → get_or timers node None ≡ Some timer → node < length timers → IsIn places node k → GoesBefore node timer found true
      → IsBest places k timers seen found → IsBest places k timers (seen ++ node ∷ []) (Some (node, timer))
  best_new timer None is l placed before best = (
    placed,
    has_timer timers node timer l is,
    λ q other e h. ⊎_elim (λ f. absurd (best q other f h))
        (λ f. inr (ap (λ (x : Timer). x.due) (at_node timer is q other f h), omega arith)) (push_cases seen node q e),
  )
  best_new timer (Some p) is l placed before best = (
    placed,
    has_timer timers node timer l is,
    λ q other e h. ⊎_elim
        (λ f. goes_on timer.due node p.1.due p.0 other.due q (before.0 refl) (best.2 q other f h))
        (λ f. inr (ap (λ (x : Timer). x.due) (at_node timer is q other f h), omega arith)) (push_cases seen node q e),
  )

  -- it doesn't
  pub best_old : (timer : Timer) (found : Option (ℕ × Timer)) → get_or timers node None ≡ Some timer → GoesBefore node timer found false
      → IsBest places k timers seen found → IsBest places k timers (seen ++ node ∷ []) found
  best_old timer None is before best = absurd (false≢true before)
  best_old timer (Some p) is before best = (
    best.0,
    best.1,
    λ q other e h. ⊎_elim (λ f. best.2 q other f h)
        (λ f. let same = ap (λ (x : Timer). x.due) (at_node timer is q other f h) in
        subst (λ x. GoesFirst p.1.due p.0 other.due x) (sym f) (subst (λ x. GoesFirst p.1.due p.0 x node) same (goes_or timer.due node p.1.due p.0 (λ g. false≢true (before.1 g)))))
        (push_cases seen node q e),
  )

module _ (places : Places) (next prev words : List ℕ) (timers : Timers) (k passed node : ℕ) (k_lt : k < 4096) (end : node ≡ length places + k) where
  pub found_first : (p : ℕ × Timer) → HasPassed places next prev words timers k passed node (Some p) → IsFirstIn places k timers p.0 p.1
  found_first p w = record {
    is_in = w.best.0;
    is_set = w.best.1;
    goes_first = λ j other e h. w.best.2 j other (covers places next prev words timers k passed node (Some p) k_lt w end j e) h;
  }

  pub found_none : HasPassed places next prev words timers k passed node None → NoTimerIn places k timers
  found_none w = λ slot timer e h. w.best slot timer (covers places next prev words timers k passed node None k_lt w end slot e) h

  pub found_some : (found : Option (ℕ × Timer)) → HasPassed places next prev words timers k passed node found → IfSome found (λ p. IsFirstIn places k timers p.0 p.1)
  found_some None w = tt
  found_some (Some p) w = found_first p w

  pub found_no : (found : Option (ℕ × Timer)) → HasPassed places next prev words timers k passed node found → IfNone found (NoTimerIn places k timers)
  found_no None w = found_none w
  found_no (Some p) w = tt

module _ (places : Places) (next prev words : List ℕ) (age : ℕ → ℕ) (L : AreLists places next prev words age) where
  -- a list with a slot has its bit
  has_bit : (slot k : ℕ) → IsIn places slot k → bit_at (get_or words (k / 64) 0) (k % 64) ≡ 1
  has_bit slot k e = (L.told k (L.listed slot k e)).1 (λ own. front_none places next prev words age L k (L.listed slot k e) own slot e)

  pub no_words : ((j : ℕ) → j < length words → get_or words j 0 ≡ 0) → (slot k : ℕ) → ¬ IsIn places slot k
  no_words none slot k e = let b = has_bit slot k e in let l = L.listed slot k e in let m = L.all_words in
      let z = ap (λ x. bit_at x (k % 64)) (none (k / 64) (omega arith)) ∙ bit_at-zero (k % 64) in absurd (omega arith)

  module _ (at w : ℕ) (at_lt : at < 64) (is : w ≡ get_or words at 0) (fits : w < 2 ^ 64) (some : w ≢ 0) (none : (j : ℕ) → j < at → get_or words j 0 ≡ 0) where
    bits_of : (trailing_zeros w64 w < 64) × (bit_at w (trailing_zeros w64 w) ≡ 1) × ((i : ℕ) → i < trailing_zeros w64 w → bit_at w i ≡ 0)
    bits_of = bit_at-trailing_zeros w64 w (omega arith) fits

    list : ℕ
    list = at * 64 + trailing_zeros w64 w

    pub first_few : at * 64 + trailing_zeros w64 w < 4096
    first_few = let b = bits_of.0 in omega arith

    pub first_has : (slot : ℕ) × IsIn places slot (at * 64 + trailing_zeros w64 w)
    first_has = let b = bits_of.0 in let t = trailing_zeros w64 w in
        let q : (at * 64 + t) / 64 ≡ at = omega arith in let r : (at * 64 + t) % 64 ≡ t = omega arith in
        let told : bit_at (get_or words ((at * 64 + t) / 64) 0) ((at * 64 + t) % 64) ≡ 1 =
        ap (λ x. bit_at (get_or words x 0) ((at * 64 + t) % 64)) q ∙ (ap (λ x. bit_at (get_or words at 0) x) r ∙ (ap (λ x. bit_at x t) (sym is) ∙ bits_of.1)) in
        (get_or next (length places + (at * 64 + t)) 0, (front_slot places next prev words age L (at * 64 + t) first_few ((L.told (at * 64 + t) first_few).0 told)).1)

    pub first_least : (slot k : ℕ) → IsIn places slot k → at * 64 + trailing_zeros w64 w ≤ k
    first_least slot k e = let b = bits_of.0 in let h = has_bit slot k e in ⊎_elim
        (λ l. ⊎_elim
        (λ m. absurd (let z = ap (λ x. bit_at x (k % 64)) (none (k / 64) m) ∙ bit_at-zero (k % 64) in omega arith))
        (λ m. let q : k / 64 ≡ at = omega arith in let r : k % 64 < trailing_zeros w64 w = omega arith in
        absurd (let z : bit_at (get_or words (k / 64) 0) (k % 64) ≡ 0 = ap (λ x. bit_at x (k % 64)) (ap (λ x. get_or words x 0) q ∙ sym is) ∙ bits_of.2 (k % 64) r in omega arith))
        (cases_lt (k / 64) at))
        (λ l. l) (cases_lt k (at * 64 + trailing_zeros w64 w))
