-- What is held after a change: which places are queued, and what the entries make.
use Rattle.std.proofs.Common.{◌≡◌, ◌≢◌, ℕ, zero, suc, ◌+◌, ◌*◌, ◌≤◌, ◌<◌, Bool, true, false, not, cond, List, [], ◌∷◌, length, Option, Some, None, refl, sym, ap, ◌∙◌, subst, arith, ◌⊎◌, inl, inr, filter, swap_remove, position}
use Rattle.std.specs.Prelude.{IfSome, IsSome, is_some, slice_get, ◌==◌}
use Rattle.std.specs.Option.{option_and_then, option_map}
use Rattle.std.specs.FinMap as map
use Rattle.std.specs.Map.{lookup, lookup_key, keys_of}
use Rattle.std.specs.Str.{bytes_eq}
use Rattle.std.specs.List.{IsDistinct}
use Rattle.std.specs.Cmp.Lexicographic.{nat_list_eq_equiv}
use Rattle.std.proofs.lemmas.Slice.Eq.{bytes_eq-Decides}
use Rattle.std.proofs.lemmas.Map.Entries.{lookup-filter-keys, lookup-filter-values, option_filter}
use Rattle.std.proofs.lemmas.Option.{MatchOption-at_some, none-some, same_Some, slice_get_within}
use Rattle.std.proofs.lemmas.Bool.Decides.{nat_tests}
use Rattle.indexmap.specs.IndexMap.{IndexMap, get, IsUnique, insert_entry, set_value_at, swap_remove_entry, with_value_at}
use Rattle.indexmap.proofs.CallerLemmas.{updates-with_value_at}
use Rattle.indexmap.proofs.MapLemmas.{Found-position, swap_remove_entry-found}
use Rattle.ht_core.specs.declared.item.Item.{Item}
use Rattle.pv_values.specs.declared.value.Val.TheVariants.{Null}
use Rattle.ht_core.specs.declared.dues.Due.{Due}
use Rattle.ht_core.specs.Queues.{Queue, IsQueued}
use Rattle.ht_core.specs.Tables.{Items, present, live, is_live}
use Rattle.ht_core.specs.Held.{Entries, due_at, due_of, due_from_now_on, AreQueued, AreQueuedBut, HasRoom, IsHeld, items_of}
use Rattle.ht_core.proofs.Items.{same, get-items_of, get-live, items_of-insert, exact, turned}
use Rattle.ht_core.proofs.Places.{place_of, due_at-found, due_at-inserted, due_at-others, swap_remove-others, swap_remove-no_new, length-swap_remove}

-- ---- the item at one place is due at another moment, and there is room for one item more

pub record Changes (es fs : Entries) (at : ℕ) (due : Option ℕ) (old new : Queue) : Type 0 where
  pub held : IsHeld es old
  pub here : due_at fs at ≡ due
  pub elsewhere : (place : ℕ) → place ≢ at → due_at fs place ≡ due_at es place
  pub stay : new.places ≡ old.places
  pub ok : IsSome due ⊎ (0 < length old.places + old.spare) → 2 * length es + 68 ≤ length new.places + new.spare
  pub longer : length fs ≤ length es + 1

module _ (es fs : Entries) (at : ℕ) (due : Option ℕ) (old new : Queue) (c : Changes es fs at due old new) where
  still : (place moment : ℕ) → IsQueued old.places place moment → IsQueued new.places place moment
  still place moment q = subst (λ xs. IsQueued xs place moment) (sym c.stay) q

  pub changed-others : AreQueuedBut at fs new.places
  changed-others place moment apart e = still place moment (c.held.queued place moment (sym (c.elsewhere place apart) ∙ e))

  pub changed-queued : (queued : Option ℕ) → due_at es at ≡ queued → (moment : ℕ) → queued ≡ Some moment → IsQueued new.places at moment
  changed-queued queued is moment e = still at moment (c.held.queued at moment (is ∙ e))

  pub changed-spare : IsSome (due_at fs at) → 0 < new.spare
  changed-spare some =
      let r : 2 * length es + 68 ≤ length new.places + new.spare = c.ok (inl (subst IsSome c.here some)) in
      let n = ap length c.stay in
      let f = c.held.few in
      omega arith

  pub changed-room : HasRoom fs new
  changed-room place moment e = by (place == at) refl
    where
      by : (b : Bool) → place == at ≡ b → 2 * length fs + 66 ≤ length new.places + new.spare
      by true is =
          let same_place : place ≡ at = grind (arith, nat_tests) in
          let is_due : due ≡ Some moment = sym c.here ∙ ap (due_at fs) (sym same_place) ∙ e in
          let r : 2 * length es + 68 ≤ length new.places + new.spare = c.ok (inl (subst IsSome (sym is_due) refl)) in
          let l = c.longer in
          omega arith
      by false is =
          let apart : place ≢ at = λ same_place. let none : ⊥ = grind (arith, nat_tests) in none in
          let r = c.held.room place moment (sym (c.elsewhere place apart) ∙ e) in
          let s : 2 * length es + 68 ≤ length new.places + new.spare = c.ok (inr (omega arith)) in
          let l = c.longer in
          omega arith

-- ---- a key was given an item

pub put : (es fs : Entries) (k : List ℕ) (item : Item) (at : ℕ) (old new : Queue) → IsHeld es old → fs ≡ insert_entry bytes_eq es k item → at ≡ place_of k es → new.places ≡ old.places
    → (IsSome item.due ⊎ (0 < length old.places + old.spare) → 2 * length es + 68 ≤ length new.places + new.spare) → length fs ≤ length es + 1 → Changes es fs at item.due old new
put es fs k item at old new held entries is_at stay ok longer = record {
  held = held;
  here = ap (λ xs. due_at xs at) entries ∙ ap (due_at (insert_entry bytes_eq es k item)) is_at ∙ due_at-inserted k item es;
  elsewhere = λ place apart. ap (λ xs. due_at xs place) entries ∙ due_at-others k item es place (λ e. apart (e ∙ sym is_at));
  stay = stay;
  ok = ok;
  longer = longer;
}

-- for what its place was queued
pub was_queued : (es : Entries) (k : List ℕ) (at : ℕ) (was : Option Item) → at ≡ place_of k es → was ≡ lookup (bytes_eq k) es → due_at es at ≡ due_of was
was_queued es k at was is_at is = ap (due_at es) is_at ∙ due_at-found k es ∙ ap due_of (sym is)

-- ---- the item at a place was made due at another moment

get-set_value_at : (es : Entries) (i : ℕ) (w : Item) → i < length es → due_at (set_value_at es i w) i ≡ w.due
get-set_value_at [] i w l = absurd (omega arith)
get-set_value_at (e ∷ es) zero w l = refl
get-set_value_at (e ∷ es) (suc i) w l = get-set_value_at es i w (omega arith)

get-set_value_other : (es : Entries) (i : ℕ) (w : Item) (place : ℕ) → place ≢ i → due_at (set_value_at es i w) place ≡ due_at es place
get-set_value_other [] i w place apart = refl
get-set_value_other (e ∷ es) zero w zero apart = absurd (apart refl)
get-set_value_other (e ∷ es) zero w (suc place) apart = refl
get-set_value_other (e ∷ es) (suc i) w zero apart = refl
get-set_value_other (e ∷ es) (suc i) w (suc place) apart = get-set_value_other es i w place (λ e. apart (ap suc e))

length-set_value : (es : Entries) (i : ℕ) (w : Item) → length (set_value_at es i w) ≡ length es
length-set_value [] i w = refl
length-set_value (e ∷ es) zero w = refl
length-set_value (e ∷ es) (suc i) w = ap suc (length-set_value es i w)

pub set_due : (es : Entries) (item : Item) (at : ℕ) (old new : Queue) → IsHeld es old → at < length es → new.places ≡ old.places
    → (IsSome item.due ⊎ (0 < length old.places + old.spare) → 2 * length es + 68 ≤ length new.places + new.spare) → Changes es (set_value_at es at item) at item.due old new
set_due es item at old new held within stay ok = record {
  held = held;
  here = get-set_value_at es at item within;
  elsewhere = λ place apart. get-set_value_other es at item place apart;
  stay = stay;
  ok = ok;
  longer = let l = length-set_value es at item in omega arith;
}

key_passes : (t : List ℕ → Bool) (es : Entries) (x : List ℕ) → lookup_key t es ≡ Some x → t x ≡ true
key_passes t [] x h = absurd (none-some x h)
key_passes t (e ∷ es) x h = by (t e.0) refl h (key_passes t es x)
  where
    by : (b : Bool) → t e.0 ≡ b → cond b (Some e.0) (lookup_key t es) ≡ Some x → (lookup_key t es ≡ Some x → t x ≡ true) → t x ≡ true
    by true is h rest = ap t (sym (same_Some e.0 x h)) ∙ is
    by false is h rest = rest h

pub items_of-set_due : {S : Type 0} (m : IndexMap (List ℕ) Item S) (k key : List ℕ) (item : Item) (due : Option ℕ) (at : ℕ) → IsUnique bytes_eq m → slice_get m.entries at ≡ Some (key, item)
    → Some key ≡ lookup_key (bytes_eq k) m.entries → Some item ≡ lookup (bytes_eq k) m.entries
    → items_of (set_value_at m.entries at (record { value = item.value; due = due })) ≡ due_from_now_on (items_of m.entries) k due (map.get (items_of m.entries) k)
items_of-set_due m k key item due at unique is_there is_key is_item =
    let w : Item = record { value = item.value; due = due } in
    let same_key : k ≡ key = (bytes_eq-Decides k key).0 (key_passes (bytes_eq k) m.entries key (sym is_key)) in
    let u = updates-with_value_at m at w nat_list_eq_equiv unique key item is_there in
    items_of-insert m.entries (set_value_at m.entries at w) k w (λ q. u.0 q ∙ ap (λ x. cond (bytes_eq x q) (Some w) (lookup (bytes_eq q) m.entries)) (sym same_key))
    ∙ ap (due_from_now_on (items_of m.entries) k due) (is_item ∙ sym (get-items_of m.entries k))

-- ---- a key was taken out

module _ (es fs : Entries) (k : List ℕ) (at : ℕ) (queue : Queue) (held : IsHeld es queue) (entries : fs ≡ swap_remove_entry (bytes_eq k) es) (is_at : Some at ≡ position (bytes_eq k) (keys_of es)) where
  d : List ℕ × Item
  d = (k, record { value = Null; due = None })

  swapped : fs ≡ swap_remove es at d
  swapped = entries ∙ swap_remove_entry-found (bytes_eq k) es at d (sym is_at)

  within : at < length es
  within = (Found-position (bytes_eq k) es at (sym is_at)).within

  no_new : (place moment : ℕ) → due_at fs place ≡ Some moment → (from : ℕ) × (due_at es from ≡ Some moment)
  no_new place moment e = swap_remove-no_new es at d within place moment (sym (ap (λ xs. due_at xs place) swapped) ∙ e)

  shorter : length fs < length es
  shorter = let l = length-swap_remove es at d within in let n = ap length swapped in omega arith

  pub removed-others : AreQueuedBut at fs queue.places
  removed-others place moment apart e = held.queued place moment (swap_remove-others es at d place moment apart (sym (ap (λ xs. due_at xs place) swapped) ∙ e))

  pub removed-room : HasRoom fs queue
  removed-room place moment e =
      let from = no_new place moment e in
      let r = held.room from.0 moment from.1 in
      let s = shorter in
      omega arith

  pub removed-spare : IsSome (due_at fs at) → 0 < queue.spare
  removed-spare some = by (due_at fs at) refl some
    where
      by : (o : Option ℕ) → due_at fs at ≡ o → IsSome o → 0 < queue.spare
      by None e some = cc
      by (Some moment) e some =
          let from = no_new at moment e in
          let r = held.room from.0 moment from.1 in
          let f = held.few in
          omega arith

-- ---- some entries were kept

kept_from : (p : List ℕ × Item → Bool) (es : Entries) (place moment : ℕ) → due_at (filter p es) place ≡ Some moment → (from : ℕ) × (due_at es from ≡ Some moment)
kept_from p [] place moment h = absurd (none-some moment h)
kept_from p (e ∷ es) place moment h = by (p e) place h (kept_from p es)
  where
    by : (b : Bool) (place : ℕ) → due_at (cond b (e ∷ filter p es) (filter p es)) place ≡ Some moment
        → ((place moment : ℕ) → due_at (filter p es) place ≡ Some moment → (from : ℕ) × (due_at es from ≡ Some moment)) → (from : ℕ) × (due_at (e ∷ es) from ≡ Some moment)
    by true zero h rest = (0, h)
    by true (suc place) h rest = let r = rest place moment h in (suc r.0, r.1)
    by false place h rest = let r = rest place moment h in (suc r.0, r.1)

pub kept-room : (p : List ℕ × Item → Bool) (es fs : Entries) (queue : Queue) → IsHeld es queue → fs ≡ filter p es → length fs ≤ length es → HasRoom fs queue
kept-room p es fs queue held is shorter place moment e =
    let from = kept_from p es place moment (sym (ap (λ xs. due_at xs place) is) ∙ e) in
    let r = held.room from.0 moment from.1 in
    omega arith

present-filter : (clock : ℕ) (o : Option Item) → option_filter (is_live clock) o ≡ present clock o
present-filter clock None = refl
present-filter clock (Some item) = refl

pub items_of-live : (clock : ℕ) (es fs : Entries) → IsDistinct bytes_eq (keys_of es) → fs ≡ filter (λ e. is_live clock e.1) es → items_of fs ≡ live clock (items_of es)
items_of-live clock es fs distinct is = same _ _ (λ q.
    get-items_of fs q ∙ ap (lookup (bytes_eq q)) is ∙ lookup-filter-values nat_list_eq_equiv (is_live clock) q es distinct ∙ present-filter clock (lookup (bytes_eq q) es)
    ∙ ap (present clock) (sym (get-items_of es q)) ∙ sym (get-live clock (items_of es) q))

pub items_of-matching : (p : List ℕ → Bool) (es fs : Entries) → fs ≡ filter (λ e. p e.0) es → items_of fs ≡ map.retain_keys (items_of es) p
items_of-matching p es fs is = same _ _ (λ q.
    get-items_of fs q ∙ ap (lookup (bytes_eq q)) is ∙ lookup-filter-keys (bytes_eq q) p (p q) (λ k t. ap p (sym ((bytes_eq-Decides q k).0 t))) es
    ∙ ap (λ o. cond (p q) o None) (sym (get-items_of es q)) ∙ sym (map.get-retain_keys (items_of es) p q (λ x t. ap p (sym (exact q x t)))))
