-- The lists and the free slots of an index, when it is made, when a key comes in, and when a slot is freed.
use Rattle.std.proofs.Common.{◌≡◌, ◌≢◌, ◌↔◌, ℕ, zero, suc, ◌+◌, ◌*◌, ◌^◌, ◌<◌, ◌≤◌, ◌⊎◌, List, [], ◌∷◌, Option, Some, None, length, map, min, set, replicate, refl, ap, sym, ◌∙◌, subst, inl, inr, ⊎_elim, arith, length-set}
use Rattle.std.specs.List.{slice_get}
use Rattle.std.specs.Option.{option_map}
use Rattle.std.proofs.lemmas.Bool.{cases_eq}
use Rattle.std.proofs.lemmas.Option.{same_Some, none-some, slice_get_within}
use Rattle.std.proofs.lemmas.List.{length-replicate, length-map, map-set}
use Rattle.key_hash.specs.declared.state.HashState.{HashState}
use Rattle.server_key.specs.declared.key.Key.{Key}
use Rattle.slot_lists.specs.Lists.{Listed, IsIn, placed}
use Rattle.slot_lists.specs.Bits.{Has}
use Rattle.txn_store.specs.declared.index.IndexPlace.{IndexPlace}
use Rattle.txn_store.specs.Places.{Places, HoldsKey, IsHeldNowhere, EachKeyIsOnce, IsFree, vacant_places_of}
use Rattle.txn_store.specs.Hashed.{list_of, list_at, IsIndex}
use Rattle.txn_store.proofs.Runs.{once_new, at_set}

abbrev pub place : ℕ → Option Key → IndexPlace
place generation key = record { generation = generation; key = key }

get_set_same : (s : Places) (slot : ℕ) (x : IndexPlace) → slot < length s → slice_get (set s slot x) slot ≡ Some x
get_set_same [] slot x l = absurd (omega arith)
get_set_same (y ∷ s) zero x l = refl
get_set_same (y ∷ s) (suc slot) x l = get_set_same s slot x (omega arith)

get_set_other : (s : Places) (slot other : ℕ) (x : IndexPlace) → other ≢ slot → slice_get (set s slot x) other ≡ slice_get s other
get_set_other [] slot other x n = refl
get_set_other (y ∷ s) zero zero x n = absurd (n refl)
get_set_other (y ∷ s) zero (suc other) x n = refl
get_set_other (y ∷ s) (suc slot) zero x n = refl
get_set_other (y ∷ s) (suc slot) (suc other) x n = get_set_other s slot other x (λ e. n (ap suc e))

get_map : {X Y : Type 0} (f : X → Y) (xs : List X) (i : ℕ) (x : X) → slice_get xs i ≡ Some x → slice_get (map f xs) i ≡ Some (f x)
get_map f [] i x e = absurd (none-some x e)
get_map f (y ∷ xs) zero x e = ap (λ z. Some (f z)) (same_Some y x e)
get_map f (y ∷ xs) (suc i) x e = get_map f xs i x e

get_replicate : (n i : ℕ) (x y : IndexPlace) → slice_get (replicate n x) i ≡ Some y → x ≡ y
get_replicate zero i x y e = absurd (none-some y e)
get_replicate (suc n) zero x y e = same_Some x y e
get_replicate (suc n) (suc i) x y e = get_replicate n i x y e

replicate_within : (n i : ℕ) (x : IndexPlace) → i < n → slice_get (replicate n x) i ≡ Some x
replicate_within zero i x l = absurd (omega arith)
replicate_within (suc n) zero x l = refl
replicate_within (suc n) (suc i) x l = replicate_within n i x (omega arith)

map_replicate : {X Y : Type 0} (f : X → Y) (n : ℕ) (x : X) → map f (replicate n x) ≡ replicate n (f x)
map_replicate f zero x = refl
map_replicate f (suc n) x = ap (λ ys. f x ∷ ys) (map_replicate f n x)

-- a slot that holds the key is in the key's list
pub in_its_list : (s : Places) (state : HashState) (lists : Listed) (free : List ℕ) → IsIndex s state lists free
    → (key : Key) (slot generation : ℕ) → HoldsKey s slot generation key → IsIn lists.places slot (list_of state lists.lists key)
in_its_list s state lists free X key slot generation h =
    ap (λ (x : List (Option ℕ)). slice_get x slot) X.listed ∙ get_map (list_at state lists.lists) s slot (place generation (Some key)) h

pub slots_of_lists : (s : Places) (state : HashState) (lists : Listed) (free : List ℕ) → IsIndex s state lists free → length lists.places ≡ length s
slots_of_lists s state lists free X = ap length X.listed ∙ length-map s (list_at state lists.lists)

-- a free slot is in no list
pub in_no_list : (s : Places) (state : HashState) (lists : Listed) (free : List ℕ) → IsIndex s state lists free
    → (slot generation : ℕ) → IsFree s slot generation → slice_get lists.places slot ≡ Some None
in_no_list s state lists free X slot generation h =
    ap (λ (x : List (Option ℕ)). slice_get x slot) X.listed ∙ get_map (list_at state lists.lists) s slot (place generation None) h

pub of_vacant : (slots generation : ℕ) (state : HashState) (lists : Listed) (free : List ℕ) → slots < 2 ^ 32 → 0 < lists.lists → lists.places ≡ replicate slots None
    → slots ≤ 64 * length free → ((slot : ℕ) → Has free slot ↔ (slot < slots)) → IsIndex (vacant_places_of slots generation) state lists free
of_vacant slots generation state lists free few some e room told = record {
  few = let l = length-replicate slots (place generation None) in omega arith;
  once = λ slot g other h key a b. absurd (none-some key (ap (λ (x : IndexPlace). x.key) (get_replicate slots slot (place generation None) (place g (Some key)) a)));
  some_list = some;
  listed = e ∙ sym (map_replicate (list_at state lists.lists) slots (place generation None));
  room = let l = length-replicate slots (place generation None) in omega arith;
  told = λ slot. (
    (λ h. (generation, replicate_within slots slot (place generation None) ((told slot).0 h))),
    λ f. (told slot).1 (let l = slice_get_within (replicate slots (place generation None)) slot (place f.0 None) f.1 in let m = length-replicate slots (place generation None) in omega arith),
  );
}

module _ (s : Places) (state : HashState) (lists : Listed) (free : List ℕ) (X : IsIndex s state lists free) (slot g : ℕ) (l : slot < length s) (free' : List ℕ) (room : length free' ≡ length free) where
  pub after_new : (key : Key) → IsHeldNowhere s key → ((other : ℕ) → Has free' other ↔ ((other ≢ slot) × Has free other))
      → IsIndex (set s slot (place g (Some key))) state (placed lists slot (Some (list_of state lists.lists key))) free'
  after_new key nowhere has = record {
    few = let m = X.few in let n = length-set s slot (place g (Some key)) in omega arith;
    once = once_new s slot g key X.once nowhere;
    some_list = X.some_list;
    listed = ap (λ (x : List (Option ℕ)). set x slot (Some (list_of state lists.lists key))) X.listed ∙ sym (map-set (list_at state lists.lists) s slot (place g (Some key)));
    room = let m = X.room in let n = length-set s slot (place g (Some key)) in omega arith;
    told = λ other. (
      (λ h. let o = (has other).0 h in let f = (X.told other).0 o.1 in (f.0, get_set_other s slot other (place g (Some key)) o.0 ∙ f.1)),
      λ f. (has other).1 (⊎_elim
          (λ p. absurd (none-some key (sym (ap (λ (x : IndexPlace). x.key) p.1))))
          (λ e. let n : other ≢ slot = λ q. none-some key (sym (ap (λ (x : IndexPlace). x.key)
          (same_Some (place g (Some key)) (place f.0 None) (sym (get_set_same s slot (place g (Some key)) l) ∙ subst (λ (x : ℕ). slice_get (set s slot (place g (Some key))) x ≡ Some (place f.0 None)) q f.1)))) in
          (n, (X.told other).1 (f.0, e)))
          (at_set s slot other (place g (Some key)) (place f.0 None) f.1)),
    );
  }

  pub after_freed : EachKeyIsOnce (set s slot (place g None)) → ((other : ℕ) → Has free' other ↔ ((other ≡ slot) ⊎ Has free other))
      → IsIndex (set s slot (place g None)) state (placed lists slot None) free'
  after_freed once has = record {
    few = let m = X.few in let n = length-set s slot (place g None) in omega arith;
    once = once;
    some_list = X.some_list;
    listed = ap (λ (x : List (Option ℕ)). set x slot None) X.listed ∙ sym (map-set (list_at state lists.lists) s slot (place g None));
    room = let m = X.room in let n = length-set s slot (place g None) in omega arith;
    told = λ other. (
      (λ h. ⊎_elim
          (λ e. (g, subst (λ (x : ℕ). slice_get (set s slot (place g None)) x ≡ Some (place g None)) (sym e) (get_set_same s slot (place g None) l)))
          (λ n. let f = (X.told other).0 (⊎_elim (λ e. absurd (n e)) (λ o. o) ((has other).0 h)) in (f.0, get_set_other s slot other (place g None) n ∙ f.1))
          (cases_eq other slot)),
      λ f. (has other).1 (⊎_elim (λ p. inl p.0) (λ e. inr ((X.told other).1 (f.0, e))) (at_set s slot other (place g None) (place f.0 None) f.1)),
    );
  }
