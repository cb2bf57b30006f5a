-- The wheel's timers and the lists of their slots.
use Rattle.std.proofs.Common.{◌≡◌, ◌≢◌, ℕ, zero, suc, ◌^◌, ◌<◌, ◌≤◌, ◌⊎◌, false, cond, eqb, List, [], ◌∷◌, Option, Some, None, IfNone, length, get_or, set, refl, sym, ap, ◌∙◌, subst, inl, inr, ⊎_elim, arith, get_or-set_same, get_or-set_other}
use Rattle.std.specs.List.{slice_get, sum_by}
use Rattle.std.proofs.lemmas.Bool.{cases_eq, false≢true}
use Rattle.std.proofs.lemmas.Bool.Decides.{nat_tests}
use Rattle.std.proofs.lemmas.Option.{none-some, same_Some, slice_get_within, slice_get-get_or, get_or_from_slice_get}
use Rattle.std.proofs.lemmas.List.{length-set}
use Rattle.std.proofs.lemmas.List.Sums.{sum_by-set}
use Rattle.timer_wheel.specs.declared.wheel.Timer.{Timer}
use Rattle.timer_wheel.specs.Timers.{Timers, HasTimer, IsFirst, IsIdle, GoesFirst}
use Rattle.timer_wheel.specs.Rings.{Places, IsIn}
use Rattle.timer_wheel.specs.Levels.{list_at, list_by}
use Rattle.timer_wheel.specs.Wheels.{IsWheel, IsKnown, IsFirstIn, NoTimerIn}
use Rattle.timer_wheel.proofs.Walks.{GoesBefore, goes_or}
use Rattle.timer_wheel.proofs.Moments.{list_at_tells, list_at_stays, list_at_falls, list_at_lowest}

slice_get_other : {X : Type 0} (xs : List X) (i j : ℕ) (x : X) → j ≢ i → slice_get (set xs i x) j ≡ slice_get xs j
slice_get_other [] i j x n = refl
slice_get_other (y ∷ xs) zero zero x n = absurd (n refl)
slice_get_other (y ∷ xs) zero (suc j) x n = refl
slice_get_other (y ∷ xs) (suc i) zero x n = refl
slice_get_other (y ∷ xs) (suc i) (suc j) x n = slice_get_other xs i j x (λ e. n (ap suc e))

slice_get_new : {X : Type 0} (xs : List X) (i : ℕ) (x : X) → i < length xs → slice_get (set xs i x) i ≡ Some x
slice_get_new {X = X} xs i x l = slice_get-get_or (set xs i x) i x (let e = length-set xs i x in omega arith) ∙ ap (λ (y : X). Some y) (get_or-set_same xs i x x l)

timer_of : (last k : ℕ) (held : Option Timer) → list_by last held ≡ Some k → (timer : Timer) × (held ≡ Some timer) × (list_at last timer.due ≡ k)
timer_of last k None e = absurd (none-some k e)
timer_of last k (Some timer) e = (timer, refl, same_Some (list_at last timer.due) k e)

held_timer : (timers : Timers) (slot : ℕ) (timer : Timer) → HasTimer timers slot timer → get_or timers slot None ≡ Some timer
held_timer timers slot timer h = get_or_from_slice_get timers slot (Some timer) None h

module _ (timers : Timers) (places : Places) (last : ℕ) (known : Option (ℕ × Timer)) (W : IsWheel timers places last known) where
  in_its_list : (slot : ℕ) (timer : Timer) → HasTimer timers slot timer → IsIn places slot (list_at last timer.due)
  in_its_list slot timer h = let l = slice_get_within timers slot (Some timer) h in let m = W.many in
      slice_get-get_or places slot None (omega arith) ∙ ap (λ (x : Option ℕ). Some x) (W.placed slot l ∙ ap (list_by last) (held_timer timers slot timer h))

  has_its_timer : (slot k : ℕ) → IsIn places slot k → (timer : Timer) × HasTimer timers slot timer × (list_at last timer.due ≡ k)
  has_its_timer slot k e = let l = slice_get_within places slot (Some k) e in let m = W.many in let n : slot < length timers = omega arith in
      let t = timer_of last k (get_or timers slot None) (sym (W.placed slot n) ∙ get_or_from_slice_get places slot (Some k) None e) in
      (t.0, slice_get-get_or timers slot None n ∙ ap (λ (x : Option Timer). Some x) t.1, t.2)

  pub first_of_lists : (k slot : ℕ) (timer : Timer) → ((s j : ℕ) → IsIn places s j → k ≤ j) → IsFirstIn places k timers slot timer → IsFirst timers slot timer
  first_of_lists k slot timer least first = record {
    is_set = first.is_set;
    goes_first = λ j other h.
        let its = has_its_timer slot k first.is_in in
        let same : its.0 ≡ timer = same_Some its.0 timer (sym (held_timer timers slot its.0 its.1) ∙ held_timer timers slot timer first.is_set) in
        let own : list_at last timer.due ≡ k = ap (λ (t : Timer). list_at last t.due) (sym same) ∙ its.2 in
        let there = in_its_list j other h in let le = least j (list_at last other.due) there in
        ⊎_elim (λ e. first.goes_first j other (subst (IsIn places j) (sym e) there) h)
        (λ n. inl (list_at_tells last timer.due other.due (omega arith)))
        (cases_eq k (list_at last other.due));
  }

  pub idle_lists : ((s j : ℕ) → ¬ IsIn places s j) → IsIdle timers
  idle_lists none slot timer h = none slot (list_at last timer.due) (in_its_list slot timer h)

  pub not_idle : (k : ℕ) → NoTimerIn places k timers → ((s : ℕ) × IsIn places s k) → ⊥
  not_idle k none some = let its = has_its_timer some.0 k some.1 in none some.0 its.0 some.1 its.1

  -- the slot's timer is set, or taken away, and the slot is in the list of it
  pub changes : (slot : ℕ) (held : Option Timer) (known' : Option (ℕ × Timer)) → slot < length timers → IsKnown (set timers slot held) known'
      → IsWheel (set timers slot held) (set places slot (list_by last held)) last known'
  changes slot held known' l is = let m = W.many in let e = length-set timers slot held in record {
    few = let f = W.few in omega arith;
    many = length-set places slot (list_by last held) ∙ (W.many ∙ sym e);
    placed = λ s n. ⊎_elim
        (λ f. ap (λ x. get_or (set places slot (list_by last held)) x None) f ∙ (get_or-set_same places slot (list_by last held) None (omega arith)
        ∙ (ap (list_by last) (sym (get_or-set_same timers slot held None l)) ∙ ap (λ x. list_by last (get_or (set timers slot held) x None)) (sym f))))
        (λ f. get_or-set_other places slot s (list_by last held) None f ∙ (W.placed s (omega arith) ∙ ap (list_by last) (sym (get_or-set_other timers slot s held None f))))
        (cases_eq s slot);
    known_first = is;
  }

  -- ---- the wheel turns to a moment before which no timer is due

  module _ (now : ℕ) (later : last ≤ now) (none_before : (slot : ℕ) (timer : Timer) → HasTimer timers slot timer → now ≤ timer.due) where
    -- at the lowest level all stay in their lists
    stays_at : (held : Option Timer) → ((timer : Timer) → held ≡ Some timer → now ≤ timer.due) → list_at last now < 2304 → list_by last held ≡ list_by now held
    stays_at None after low = refl
    stays_at (Some timer) after low = let a = after timer refl in ap (λ (x : ℕ). Some x) (⊎_elim
        (λ e. sym (list_at_lowest last now timer.due later a e low))
        (λ n. sym (list_at_stays last now timer.due later a n))
        (cases_eq (list_at last timer.due) (list_at last now)))

    pub turned_low : list_at last now < 2304 → IsWheel timers places now known
    turned_low low = record {
      few = W.few;
      many = W.many;
      placed = λ slot l. W.placed slot l ∙ stays_at (get_or timers slot None) (λ timer e. none_before slot timer (slice_get-get_or timers slot None l ∙ ap (λ (x : Option Timer). Some x) e)) low;
      known_first = W.known_first;
    }

-- slots are on their way out of the list of `now` to where their timers stand from `now` on
pub record IsTurning (timers : Timers) (places : Places) (last now list : ℕ) (known : Option (ℕ × Timer)) : Type 0 where
  pub few : length timers < 2 ^ 32
  pub many : length places ≡ length timers
  pub placed : (slot : ℕ) → slot < length timers → ((get_or places slot None ≡ Some list) × (list_by last (get_or timers slot None) ≡ Some list))
      ⊎ ((get_or places slot None ≡ list_by now (get_or timers slot None)) × (get_or places slot None ≢ Some list))
  pub known_first : IsKnown timers known

module _ (timers : Timers) (places : Places) (last : ℕ) (known : Option (ℕ × Timer)) (W : IsWheel timers places last known) (now : ℕ) (later : last ≤ now)
    (none_before : (slot : ℕ) (timer : Timer) → HasTimer timers slot timer → now ≤ timer.due) where
  placed_at : (held : Option Timer) → ((timer : Timer) → held ≡ Some timer → now ≤ timer.due)
      → (list_by last held ≡ Some (list_at last now)) ⊎ ((list_by last held ≡ list_by now held) × (list_by last held ≢ Some (list_at last now)))
  placed_at None after = inr (refl, λ e. none-some (list_at last now) e)
  placed_at (Some timer) after = ⊎_elim (λ e. inl (ap (λ (x : ℕ). Some x) e))
      (λ n. inr (ap (λ (x : ℕ). Some x) (sym (list_at_stays last now timer.due later (after timer refl) n)), λ e. n (same_Some (list_at last timer.due) (list_at last now) e)))
      (cases_eq (list_at last timer.due) (list_at last now))

  pub begins_to_turn : IsTurning timers places last now (list_at last now) known
  begins_to_turn = record {
    few = W.few;
    many = W.many;
    placed = λ slot l. let p = W.placed slot l in
        ⊎_elim (λ e. inl (p ∙ e, e)) (λ e. inr (p ∙ e.0, λ f. e.1 (sym p ∙ f)))
        (placed_at (get_or timers slot None) (λ timer e. none_before slot timer (slice_get-get_or timers slot None l ∙ ap (λ (x : Option Timer). Some x) e)));
    known_first = W.known_first;
  }

-- a slot in the list counts one
unfoldable pub weight : ℕ → Option ℕ → ℕ
weight list None = 0
weight list (Some k) = cond (eqb k list) 1 0

weight_in : (list : ℕ) (place : Option ℕ) → place ≡ Some list → weight list place ≡ 1
unfolding weight
weight_in list None e = absurd (none-some list e)
weight_in list (Some k) e = let f = same_Some k list e in grind (arith, nat_tests)

weight_out : (list : ℕ) (place : Option ℕ) → place ≢ Some list → weight list place ≡ 0
unfolding weight
weight_out list None e = refl
weight_out list (Some k) e = ⊎_elim (λ f. absurd (e (ap (λ (x : ℕ). Some x) f))) (λ n. grind (arith, nat_tests)) (cases_eq k list)

-- how many slots are in the list
unfoldable pub still_in : ℕ → Places → ℕ
still_in list places = sum_by (weight list) places

module _ (timers : Timers) (places : Places) (last now list : ℕ) (known : Option (ℕ × Timer)) (T : IsTurning timers places last now list known) where
  -- at the end no slot is in the list
  pub has_turned : ((slot : ℕ) → ¬ IsIn places slot list) → IsWheel timers places now known
  has_turned none = record {
    few = T.few;
    many = T.many;
    placed = λ slot l. ⊎_elim
        (λ e. absurd (let m = T.many in none slot (slice_get-get_or places slot None (omega arith) ∙ ap (λ (x : Option ℕ). Some x) e.0)))
        (λ e. e.0) (T.placed slot l);
    known_first = T.known_first;
  }

  module _ (slot : ℕ) (is_in : IsIn places slot list) where
    its_place : get_or places slot None ≡ Some list
    its_place = get_or_from_slice_get places slot (Some list) None is_in

    moving_slot : slot < length places
    moving_slot = slice_get_within places slot (Some list) is_in

    pub turning_slot : slot < length timers
    turning_slot = let m = T.many in let l = moving_slot in omega arith

    pub is_out : slice_get (set places slot None) slot ≡ Some None
    is_out = slice_get_new places slot None moving_slot

    -- the slot moves to where its timer stands, or to no list where it has none
    pub turns_on : (place : Option ℕ) → place ≡ list_by now (get_or timers slot None) → place ≢ Some list → IsTurning timers (set places slot place) last now list known
    turns_on place is other = let same = get_or-set_same places slot place None moving_slot in record {
      few = T.few;
      many = length-set places slot place ∙ T.many;
      placed = λ s l. ⊎_elim
          (λ e. inr (
            ap (λ x. get_or (set places slot place) x None) e ∙ (same ∙ (is ∙ ap (λ x. list_by now (get_or timers x None)) (sym e))),
            λ f. other (sym same ∙ (ap (λ x. get_or (set places slot place) x None) (sym e) ∙ f)),
          ))
          (λ n. let o = get_or-set_other places slot s place None n in ⊎_elim (λ e. inl (o ∙ e.0, e.1)) (λ e. inr (o ∙ e.0, λ f. e.1 (sym o ∙ f))) (T.placed s l))
          (cases_eq s slot);
      known_first = T.known_first;
    }

    pub fewer : (place : Option ℕ) → place ≢ Some list → still_in list (set places slot place) < still_in list places
    unfolding still_in
    fewer place other =
        let s = sum_by-set (weight list) places slot place None moving_slot in
        let a = weight_in list (get_or places slot None) its_place in
        let b = weight_out list place other in omega arith

    -- a timer that was in the list stands in an earlier one now
    pub turns_away : (timer : Timer) → get_or timers slot None ≡ Some timer → last ≤ now → now ≤ timer.due → timer.due < 2 ^ 64 → list ≡ list_at last now → 2304 ≤ list
        → ◌≢◌ {A = Option ℕ} (Some (list_at now timer.due)) (Some list)
    turns_away timer is later after fits of_now high e = ⊎_elim
        (λ p. let here : list_at last timer.due ≡ list = same_Some (list_at last timer.due) list (sym (ap (list_by last) is) ∙ p.1) in
        let falls = list_at_falls last now timer.due later after (here ∙ of_now) (omega arith) fits in
        let same = same_Some (list_at now timer.due) list e in omega arith)
        (λ p. p.1 its_place) (T.placed slot turning_slot)

pub no_place : (list : ℕ) → ◌≢◌ {A = Option ℕ} None (Some list)
no_place list e = none-some list e

pub if_none_then : {X : Type 0} (r : Option X) {P Q : Type 0} → IfNone r P → (P → Q) → IfNone r Q
if_none_then None p f = f p
if_none_then (Some x) p f = tt

-- a timer that goes off first goes off before the one that is set in another slot
pub first_stays : (timers : Timers) (first : ℕ × Timer) (slot : ℕ) (timer : Timer) → slot < length timers → first.0 ≢ slot → GoesFirst first.1.due first.0 timer.due slot
    → IsFirst timers first.0 first.1 → IsFirst (set timers slot (Some timer)) first.0 first.1
first_stays timers first slot timer l n before is = record {
  is_set = slice_get_other timers slot first.0 (Some timer) n ∙ is.is_set;
  goes_first = λ k other h. ⊎_elim
      (λ e. let same : timer ≡ other = same_Some timer other (same_Some (Some timer) (Some other) (sym (slice_get_new timers slot (Some timer) l) ∙ subst (λ x. HasTimer (set timers slot (Some timer)) x other) e h)) in
      subst (λ x. GoesFirst first.1.due first.0 other.due x) (sym e) (subst (λ (t : Timer). GoesFirst first.1.due first.0 t.due slot) same before))
      (λ m. is.goes_first k other (sym (slice_get_other timers slot k (Some timer) m) ∙ h))
      (cases_eq k slot);
}

pub known_stays : (known : Option (ℕ × Timer)) (first : ℕ × Timer) (slot : ℕ) (timer : Timer) → known ≡ Some first → first.0 ≢ slot → GoesBefore slot timer known false
    → (timers : Timers) → slot < length timers → IsKnown timers known → IsKnown (set timers slot (Some timer)) known
known_stays None first slot timer e n before timers l is = tt
known_stays (Some p) first slot timer e n before timers l is = let m : p.0 ≢ slot = λ f. n (sym (ap (λ (q : ℕ × Timer). q.0) (same_Some p first e)) ∙ f) in
    first_stays timers p slot timer l m (goes_or timer.due slot p.1.due p.0 (λ g. false≢true (before.1 g))) is
