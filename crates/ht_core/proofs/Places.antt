-- Which places are queued, after a change too.
use Rattle.std.proofs.Common.{◌≡◌, ◌≢◌, ℕ, zero, suc, ◌+◌, ◌*◌, ◌-◌, ◌≤◌, ◌<◌, Bool, true, false, not, cond, List, [], ◌∷◌, ◌++◌, length, Option, Some, None, refl, sym, ap, ◌∙◌, subst, arith, nat_lt, one-add, ◌⊎◌, inl, inr, ⊎_elim, get_or, filter, take, set, length-take, IsPermutation, Contains, All}
use Rattle.std.specs.Prelude.{MatchOption, IfSome, is_some, IsSome, sum_by, nat_le, if◌then◌else◌, slice_get, ◌==◌, slice_index_or, swap_remove}
use Rattle.std.specs.Option.{option_and_then, option_map_or}
use Rattle.std.specs.FinMap as map
use Rattle.std.proofs.lemmas.Map.Entries.{place_from_lookup}
use Rattle.std.specs.List.{position_or_len}
use Rattle.std.specs.Map.{lookup, keys_of}
use Rattle.std.specs.Str.{bytes_eq}
use Rattle.std.proofs.lemmas.List.Sorted.{IsPermutation-sym, length_permutation, Contains-permutation, sum_by_popped, sum_by_pushed}
use Rattle.std.proofs.lemmas.List.Elements.{All-contains, Contains-append_left, Contains-append_right, Contains-append_cases, Contains-get_or}
use Rattle.std.proofs.lemmas.Option.{MatchOption-at_some, slice_get_within, none-some, same_Some, slice_get-get_or}
use Rattle.std.proofs.lemmas.Bool.Decides.{nat_tests}
use Rattle.indexmap.specs.IndexMap.{IndexMap, get, Updates, insert_entry, set_value_at}
use Rattle.ht_core.specs.declared.item.Item.{Item}
use Rattle.ht_core.specs.declared.dues.Due.{Due}
use Rattle.ht_core.specs.Queues.{Queue, IsQueued}
use Rattle.ht_core.specs.Held.{Entries, due_at, AreQueued, AreQueuedBut, HasRoom, Queues, IsHeld, IsOver, Expires, work, due_of, comes_before, items_of}
use Rattle.ht_core.specs.Tables.{present, live, is_live}
use Rattle.ht_core.proofs.Items.{same, get-items_of, items_of-remove, get-live, live-removed}

-- ---- the moment at a place

due_some : (o : Option (List ℕ × Item)) (moment : ℕ) → option_and_then (λ e. e.1.due) o ≡ Some moment → (e : List ℕ × Item) × (o ≡ Some e) × (e.1.due ≡ Some moment)
due_some None moment h = absurd (none-some moment h)
due_some (Some e) moment h = (e, refl, h)

-- ---- one place

pub queued_later : (places : List Due) (place moment later : ℕ) → moment ≤ later → IsQueued places place moment → IsQueued places place later
queued_later places place moment later l q = record { due = q.due; is_there = q.is_there; is_of_place = q.is_of_place; in_time = let t = q.in_time in omega arith }

pub queued_moved : (xs ys : List Due) (place moment : ℕ) → IsPermutation xs ys → IsQueued xs place moment → IsQueued ys place moment
queued_moved xs ys place moment p q = record { due = q.due; is_there = Contains-permutation xs ys q.due p q.is_there; is_of_place = q.is_of_place; in_time = q.in_time }

pub queued_more : (x : Due) (xs : List Due) (place moment : ℕ) → IsQueued xs place moment → IsQueued (x ∷ xs) place moment
queued_more x xs place moment q = record { due = q.due; is_there = Contains-append_right (x ∷ []) xs q.due q.is_there; is_of_place = q.is_of_place; in_time = q.in_time }

first_queued : (x : Due) (xs : List Due) → IsQueued (x ∷ xs) x.place x.moment
first_queued x xs = record { due = x; is_there = Contains-get_or (x ∷ xs) 0 x (omega arith); is_of_place = refl; in_time = omega arith }

only : (x y : Due) → Contains (x ∷ []) y → x ≡ y
only x y h = at h.0 h.1 h.2
  where
    at : (k : ℕ) → k < 1 → slice_index_or (x ∷ []) k y ≡ y → x ≡ y
    at zero l e = e
    at (suc k) l e = absurd (omega arith)

-- ---- a place that is queued

pub queues_keep : (old new : List Due) (at : ℕ) (when : Option ℕ) (place moment : ℕ) → Queues old at when new → IsQueued old place moment → IsQueued new place moment
queues_keep old new at None place moment h q = subst (λ xs. IsQueued xs place moment) (sym h) q
queues_keep old new at (Some m) place moment h q = queued_moved _ new place moment h (queued_more _ old place moment q)

pub queues_here : (old new : List Due) (place moment : ℕ) → Queues old place (Some moment) new → IsQueued new place moment
queues_here old new place moment h = queued_moved _ new place moment h (first_queued (record { moment = moment; place = place }) old)

pub queues_all : (es : Entries) (old new : List Due) (at : ℕ) → AreQueuedBut at es old → Queues old at (due_at es at) new → AreQueued es new
queues_all es old new at but h place moment e = by (place == at) refl
  where
    by : (b : Bool) → place == at ≡ b → IsQueued new place moment
    by true is =
        let same : place ≡ at = grind (arith, nat_tests) in
        let here : due_at es at ≡ Some moment = sym (ap (due_at es) same) ∙ e in
        subst (λ p. IsQueued new p moment) (sym same) (queues_here old new at moment (subst (λ w. Queues old at w new) here h))
    by false is = queues_keep old new at (due_at es at) place moment h (but place moment (λ same. let no : ⊥ = grind (arith, nat_tests) in no) e)

pub queues_but : (es : Entries) (old new : List Due) (at : ℕ) → AreQueued es old → AreQueuedBut at es old
queues_but es old new at all place moment apart e = all place moment e

-- one place more is queued
pub queues_next : (es : Entries) (old new : List Due) (at : ℕ) → ((place moment : ℕ) → place < at → due_at es place ≡ Some moment → IsQueued old place moment) → Queues old at (due_at es at) new
    → (place moment : ℕ) → place < at + 1 → due_at es place ≡ Some moment → IsQueued new place moment
queues_next es old new at before h place moment l e = by (place == at) refl
  where
    by : (b : Bool) → place == at ≡ b → IsQueued new place moment
    by true is =
        let same : place ≡ at = grind (arith, nat_tests) in
        let here : due_at es at ≡ Some moment = sym (ap (due_at es) same) ∙ e in
        subst (λ p. IsQueued new p moment) (sym same) (queues_here old new at moment (subst (λ w. Queues old at w new) here h))
    by false is = queues_keep old new at (due_at es at) place moment h (before place moment (grind (arith, nat_tests)) e)

pub due_within : (es : Entries) (place moment : ℕ) → due_at es place ≡ Some moment → place < length es
due_within es place moment h = let f = due_some _ moment h in slice_get_within es place f.0 f.1

-- the length of the queue
pub queues_length : (old new : List Due) (at : ℕ) (when : Option ℕ) → Queues old at when new → length new ≤ length old + 1
queues_length old new at None h = let e = ap length h in omega arith
queues_length old new at (Some m) h = let e = length_permutation _ new h in omega arith

-- a place is queued, or was queued in time already
pub not_before : (es : Entries) (places : List Due) (place : ℕ) (queued : Option ℕ) → AreQueuedBut place es places → ((moment : ℕ) → queued ≡ Some moment → IsQueued places place moment)
    → comes_before (due_at es place) queued ≡ false → AreQueued es places
not_before es places place queued but here late at moment e = by (at == place) refl
  where
    in_time : (moment : ℕ) (queued : Option ℕ) → ((m : ℕ) → queued ≡ Some m → IsQueued places place m) → comes_before (Some moment) queued ≡ false → IsQueued places place moment
    in_time moment None here late = cc
    in_time moment (Some m) here late = queued_later places place m moment (grind (arith, nat_tests)) (here m refl)

    by : (b : Bool) → at == place ≡ b → IsQueued places at moment
    by true is =
        let same : at ≡ place = grind (arith, nat_tests) in
        let when : due_at es place ≡ Some moment = sym (ap (due_at es) same) ∙ e in
        subst (λ p. IsQueued places p moment) (sym same) (in_time moment queued here (sym (ap (λ w. comes_before w queued) when) ∙ late))
    by false is = but at moment (λ same. let none : ⊥ = grind (arith, nat_tests) in none) e

-- ---- the first place came out

pub popped_but : (es : Entries) (old new : List Due) (due : Due) → IsPermutation old (due ∷ new) → AreQueued es old → AreQueuedBut due.place es new
popped_but es old new due p all place moment apart e =
    let q : IsQueued (due ∷ new) place moment = queued_moved old (due ∷ new) place moment p (all place moment e) in
    ⊎_elim (λ here. absurd (apart (sym q.is_of_place ∙ sym (ap (λ (d : Due). d.place) (only due q.due here)))))
    (λ there. record { due = q.due; is_there = there; is_of_place = q.is_of_place; in_time = q.in_time })
    (Contains-append_cases (due ∷ []) new q.due q.is_there)

-- ---- the item at a place was taken out, and the last one took its place

get-take : (n : ℕ) (es : Entries) (at : ℕ) (e : List ℕ × Item) → slice_get (take n es) at ≡ Some e → slice_get es at ≡ Some e
get-take zero es at e h = absurd (none-some e h)
get-take (suc n) [] at e h = absurd (none-some e h)
get-take (suc n) (x ∷ es) zero e h = h
get-take (suc n) (x ∷ es) (suc at) e h = get-take n es at e h

get-set_other : (es : Entries) (i : ℕ) (v : List ℕ × Item) (at : ℕ) → at ≢ i → slice_get (set es i v) at ≡ slice_get es at
get-set_other [] i v at apart = refl
get-set_other (x ∷ es) zero v zero apart = absurd (apart refl)
get-set_other (x ∷ es) zero v (suc at) apart = refl
get-set_other (x ∷ es) (suc i) v zero apart = refl
get-set_other (x ∷ es) (suc i) v (suc at) apart = get-set_other es i v at (λ e. apart (ap suc e))

get-set_same : (es : Entries) (i : ℕ) (v e : List ℕ × Item) → slice_get (set es i v) i ≡ Some e → v ≡ e
get-set_same [] i v e h = absurd (none-some e h)
get-set_same (x ∷ es) zero v e h = same_Some v e h
get-set_same (x ∷ es) (suc i) v e h = get-set_same es i v e h

module _ (es : Entries) (i : ℕ) (d : List ℕ × Item) where
  pub swap_remove-others : (at moment : ℕ) → at ≢ i → due_at (swap_remove es i d) at ≡ Some moment → due_at es at ≡ Some moment
  swap_remove-others at moment apart h =
      let f = due_some _ moment h in
      let g = get-take (length es - 1) _ at f.0 f.1 in
      ap (option_and_then (λ e. e.1.due)) (sym (get-set_other es i _ at apart) ∙ g) ∙ f.2

  pub swap_remove-no_new : i < length es → (at moment : ℕ) → due_at (swap_remove es i d) at ≡ Some moment → (from : ℕ) × (due_at es from ≡ Some moment)
  swap_remove-no_new within at moment h = by (at == i) refl
    where
      by : (b : Bool) → at == i ≡ b → (from : ℕ) × (due_at es from ≡ Some moment)
      by false is = (at, swap_remove-others at moment (λ same. let no : ⊥ = grind (arith, nat_tests) in no) h)
      by true is =
          let same : at ≡ i = grind (arith, nat_tests) in
          let f = due_some _ moment h in
          let g = get-take (length es - 1) _ at f.0 f.1 in
          let last : slice_index_or es (length es - 1) d ≡ f.0 = get-set_same es i _ f.0 (subst (λ k. slice_get (set es i (slice_index_or es (length es - 1) d)) k ≡ Some f.0) same g) in
          (length es - 1, ap (option_and_then (λ e. e.1.due)) (slice_get-get_or es (length es - 1) d (omega arith) ∙ ap Some last) ∙ f.2)

  pub length-swap_remove : i < length es → length (swap_remove es i d) < length es
  length-swap_remove within = let a = length-take (length es - 1) (set es i (slice_index_or es (length es - 1) d)) in omega arith

-- ---- an entry is put in

module _ (k : List ℕ) where
  -- the place of the key
  abbrev pub place_of : Entries → ℕ
  place_of es = position_or_len (bytes_eq k) (keys_of es)

  found_by : (e : List ℕ × Item) (es : Entries) → due_at es (place_of es) ≡ due_of (lookup (bytes_eq k) es)
      → (b : Bool) → due_at (e ∷ es) (cond (not b) (1 + place_of es) 0) ≡ due_of (cond b (Some e.1) (lookup (bytes_eq k) es))
  found_by e es rest true = refl
  found_by e es rest false = ap (due_at (e ∷ es)) (one-add (place_of es)) ∙ rest

  pub due_at-found : (es : Entries) → due_at es (place_of es) ≡ due_of (lookup (bytes_eq k) es)
  due_at-found [] = refl
  due_at-found (e ∷ es) = found_by e es (due_at-found es) (bytes_eq k e.0)

  module _ (item : Item) where
    inserted_by : (e : List ℕ × Item) (es : Entries) → due_at (insert_entry bytes_eq es k item) (place_of es) ≡ item.due
        → (b : Bool) → due_at (if b then ((e.0, item) ∷ es) else (e ∷ insert_entry bytes_eq es k item)) (cond (not b) (1 + place_of es) 0) ≡ item.due
    inserted_by e es rest true = refl
    inserted_by e es rest false = ap (due_at (e ∷ insert_entry bytes_eq es k item)) (one-add (place_of es)) ∙ rest

    pub due_at-inserted : (es : Entries) → due_at (insert_entry bytes_eq es k item) (place_of es) ≡ item.due
    due_at-inserted [] = refl
    due_at-inserted (e ∷ es) = inserted_by e es (due_at-inserted es) (bytes_eq k e.0)

    others_by : (e : List ℕ × Item) (es : Entries) → ((place : ℕ) → place ≢ place_of es → due_at (insert_entry bytes_eq es k item) place ≡ due_at es place)
        → (b : Bool) (place : ℕ) → place ≢ cond (not b) (1 + place_of es) 0
        → due_at (if b then ((e.0, item) ∷ es) else (e ∷ insert_entry bytes_eq es k item)) place ≡ due_at (e ∷ es) place
    others_by e es rest true zero apart = absurd (apart refl)
    others_by e es rest true (suc place) apart = refl
    others_by e es rest false zero apart = refl
    others_by e es rest false (suc place) apart = rest place (λ same. apart (ap suc same ∙ sym (one-add (place_of es))))

    pub due_at-others : (es : Entries) (place : ℕ) → place ≢ place_of es → due_at (insert_entry bytes_eq es k item) place ≡ due_at es place
    due_at-others [] zero apart = absurd (apart refl)
    due_at-others [] (suc place) apart = refl
    due_at-others (e ∷ es) place apart = others_by e es (due_at-others es) (bytes_eq k e.0) place apart

-- ---- all items are live where no moment has come

module _ (clock : ℕ) (es : Entries) (places : List Due) (queued : AreQueued es places) (later : All (λ (d : Due). clock < d.moment) places) where
  lives_at : (place : ℕ) (key : List ℕ) (item : Item) → slice_get es place ≡ Some (key, item) → (due : Option ℕ) → item.due ≡ due → option_map_or (λ d. nat_lt clock d) due true ≡ true
  lives_at place key item at None e = refl
  lives_at place key item at (Some moment) e =
      let q = queued place moment (ap (option_and_then (λ x. x.1.due)) at ∙ e) in
      let l : clock < q.due.moment = All-contains (λ (d : Due). clock < d.moment) places q.due later q.is_there in
      let m : q.due.moment ≤ moment = q.in_time in
      grind (arith, nat_tests)

  stays : (key : List ℕ) (o : Option Item) → lookup (bytes_eq key) es ≡ o → present clock o ≡ o
  stays key None e = refl
  stays key (Some item) e =
      let p = place_from_lookup (bytes_eq key) es item e in
      ap (λ b. cond b (Some item) None) (lives_at p.0 p.1 item p.2 item.due refl)

  pub all_live : live clock (items_of es) ≡ items_of es
  all_live = same _ _ (λ q. get-live clock (items_of es) q ∙ ap (present clock) (get-items_of es q) ∙ stays q _ refl ∙ sym (get-items_of es q))

-- ---- a look at one place

-- the item at a place was over, and was taken out
pub expires : {S : Type 0} (clock : ℕ) (old new : IndexMap (List ℕ) Item S) (place : ℕ) (r : Option (List ℕ × Item)) → IsOver clock old place → r ≡ slice_get old.entries place
    → IfSome r (λ p. new.entries ≡ swap_remove old.entries place p) → IfSome r (λ p. Updates bytes_eq old new p.0 None) → Expires clock old.entries place new.entries
expires clock old new place r over at e updates =
    let key : List ℕ = over.0 in
    let p : List ℕ × Item = (over.0, over.1) in
    let is : r ≡ Some p = at ∙ over.2 in
    let entries : new.entries ≡ swap_remove old.entries place p = MatchOption-at_some (Unit {0}) (λ x. new.entries ≡ swap_remove old.entries place x) p is e in
    let u : Updates bytes_eq old new key None = MatchOption-at_some (Unit {0}) (λ x. Updates bytes_eq old new x.0 None) p is updates in
    let within : place < length old.entries = slice_get_within old.entries place p over.2 in
    let gone : present clock (map.get (items_of old.entries) key) ≡ None
    = ap (present clock) (get-items_of old.entries key ∙ over.3) ∙ ap (λ b. cond b (Some over.1) None) over.4 in
    let l = length-swap_remove old.entries place p within in
    let n = ap length entries in
    record {
      same = ap (live clock) (items_of-remove old.entries new.entries key u.0) ∙ live-removed clock (items_of old.entries) key gone;
      others = λ at moment apart h. swap_remove-others old.entries place p at moment apart (sym (ap (λ es. due_at es at) entries) ∙ h);
      no_more = omega arith;
      no_new = λ at moment h. swap_remove-no_new old.entries place p within at moment (sym (ap (λ es. due_at es at) entries) ∙ h);
      goes_on = inl (omega arith);
    }

-- the item at a place was not over, and stays
pub expires_not : (clock : ℕ) (es : Entries) (place : ℕ) → ((moment : ℕ) → due_at es place ≡ Some moment → clock < moment) → Expires clock es place es
expires_not clock es place later = record { same = refl; others = λ at moment apart h. h; no_more = omega arith; no_new = λ at moment h. (at, h); goes_on = inr later }

module _ (clock : ℕ) (es fs : Entries) (ps qs rs : List Due) (due : Due) (popped : IsPermutation ps (due ∷ qs)) (x : Expires clock es due.place fs) (q : Queues qs due.place (due_at fs due.place) rs) where
  pub queued_after : AreQueued es ps → AreQueued fs rs
  queued_after all = queues_all fs qs rs due.place (λ at moment apart e. popped_but es ps qs due popped all at moment apart (x.others at moment apart e)) q

  pub room_after : (spare_p spare_q spare_r : ℕ) → spare_q ≡ spare_p + 1 → length qs + spare_q ≤ length rs + spare_r
      → ((place moment : ℕ) → due_at es place ≡ Some moment → 2 * length es + 66 ≤ length ps + spare_p)
      → (place moment : ℕ) → due_at fs place ≡ Some moment → 2 * length fs + 66 ≤ length rs + spare_r
  room_after spare_p spare_q spare_r e l room place moment h =
      let from = x.no_new place moment h in
      let r = room from.0 moment from.1 in
      let n = x.no_more in
      let p = length_permutation ps (due ∷ qs) popped in
      omega arith

  abbrev weight : Due → ℕ
  weight d = if nat_le d.moment clock then 1 else 0

  heavy : (d : Due) → d.moment ≤ clock → weight d ≡ 1
  heavy d l = let t : nat_le d.moment clock ≡ true = grind (arith, nat_tests) in let w : Bool → ℕ = λ b. if b then 1 else 0 in ap w t

  light : (b : Bool) → (if b then 1 else 0) ≤ 1
  light true = omega arith
  light false = omega arith

  no_weight : (d : Due) → clock < d.moment → weight d ≡ 0
  no_weight d l = let t : nat_le d.moment clock ≡ false = grind (arith, nat_tests) in let w : Bool → ℕ = λ b. if b then 1 else 0 in ap w t

  pub less_work : due.moment ≤ clock → work clock fs rs < work clock es ps
  less_work has_come = by (due_at fs due.place) refl q
    where
      by : (when : Option ℕ) → due_at fs due.place ≡ when → Queues qs due.place when rs → work clock fs rs < work clock es ps
      by None e h =
          let p = sum_by_popped weight due ps qs popped in
          let w = heavy due has_come in
          let s = ap (sum_by weight) h in
          let n = x.no_more in
          omega arith
      by (Some moment) e h =
          let p = sum_by_popped weight due ps qs popped in
          let w = heavy due has_come in
          let d : Due = record { moment = moment; place = due.place } in
          let s : sum_by weight rs ≡ weight d + sum_by weight qs = sum_by_pushed weight d qs rs h in
          let n = x.no_more in
          let m : weight d ≤ 1 = light (nat_le moment clock) in
          ⊎_elim (λ l. omega arith) (λ later. let z : weight d ≡ 0 = no_weight d (later moment e) in omega arith) x.goes_on
