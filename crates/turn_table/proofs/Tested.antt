-- What the tests cite: sums that wrap, lists of one value, and passes that lie in the structs of workers.
use Rattle.std.proofs.Common.{◌≡◌, ℕ, zero, suc, ◌+◌, ◌%◌, ◌<◌, List, [], ◌∷◌, ◌++◌, map, length, get_or, replicate, sum, Option, refl, sym, ap, ◌∙◌, subst, arith}
use Rattle.std.proofs.Math.Nat.{mod-add-mod}
use Rattle.std.proofs.lemmas.List.{get_or-map, length-map}
use Rattle.std.proofs.lemmas.List.Sums.{sum_by_push}
use mathlib.Core.Option.{some, some-injective, some-ne-none}
use lib.ListN.{get_elem?}
use Rattle.atomic_table.specs.Seated.{TableId}
use Rattle.atomic_table.specs.declared.shared.Seat.{Seat}
use Rattle.turn_table.specs.declared.view.PassView.{PassView}
use Rattle.turn_table.specs.Passes.{IsPass, HoldsNone, AreNewPasses, AreAllPasses, GoesOn}
use Rattle.turn_table.proofs.Passes.{each_new, all_gone_on}

-- a sum that wraps, after one more was added
pub sum_goes_on : (v x : ℕ) (rs : List ℕ) → v ≡ sum rs % 18446744073709551616 → (v + x) % 18446744073709551616 ≡ sum (rs ++ x ∷ []) % 18446744073709551616
sum_goes_on v x rs e = ap (λ z. (z + x) % 18446744073709551616) e ∙ (mod-add-mod (sum rs) 18446744073709551616 x ∙ ap (λ z. z % 18446744073709551616) (sym (sum_by_push (λ (n : ℕ). n) rs x)))

pub each_alike : {A : Type 0} (n k : ℕ) (a v : A) → get_elem? (replicate n a) k ≡ some v → v ≡ a
each_alike zero k a v e = absurd (some-ne-none v (sym e))
each_alike (suc n) zero a v e = sym (some-injective a v e)
each_alike (suc n) (suc k) a v e = each_alike n k a v e

module _ {C F R N W : Type 0} (seat : Seat (Option C) (PassView F R N) → W) (pass_of : W → Seat (Option C) (PassView F R N)) where
  pub each_seated : ((p : Seat (Option C) (PassView F R N)) → pass_of (seat p) ≡ p) → (z : TableId) (f : F) (n : ℕ) (ps : List (Seat (Option C) (PassView F R N))) → AreNewPasses z f n ps → (i : ℕ) (d : W) → i < length (map seat ps)
      → IsPass z f (pass_of (get_or (map seat ps) i d)) × HoldsNone (pass_of (get_or (map seat ps) i d))
  each_seated back z f n ps new i d l =
      let l' : i < length ps = let e = length-map ps seat in omega arith in
      subst (λ (p : Seat (Option C) (PassView F R N)). IsPass z f p × HoldsNone p) (sym (ap pass_of (get_or-map seat ps i (pass_of d) d l') ∙ back (get_or ps i (pass_of d)))) (each_new z f n ps new i (pass_of d) l')

  pub all_seated_on : ((p : Seat (Option C) (PassView F R N)) → pass_of (seat p) ≡ p) → (z : TableId) (f : F) (n : ℕ) (ps : List (Seat (Option C) (PassView F R N))) (vs : List W) → AreNewPasses z f n ps → 0 < n → length vs ≡ length (map seat ps)
      → ((i : ℕ) (d : W) → i < length (map seat ps) → GoesOn (pass_of (get_or (map seat ps) i d)) (pass_of (get_or vs i d))) → AreAllPasses z f (map pass_of vs)
  all_seated_on back z f n ps vs new some_pass count on = all_gone_on z f n ps (map pass_of vs) new some_pass (length-map vs pass_of ∙ (count ∙ length-map ps seat)) each
    where
      each : (i : ℕ) (d : Seat (Option C) (PassView F R N)) → i < length ps → GoesOn (get_or ps i d) (get_or (map pass_of vs) i d)
      each i d l =
          let e = length-map ps seat in
          subst (λ (q : Seat (Option C) (PassView F R N)). GoesOn (get_or ps i d) q) (sym (get_or-map pass_of vs i (seat d) d (let c = count in omega arith)))
          (subst (λ (p : Seat (Option C) (PassView F R N)). GoesOn p (pass_of (get_or vs i (seat d)))) (ap pass_of (get_or-map seat ps i d (seat d) l) ∙ back (get_or ps i d)) (on i (seat d) (omega arith)))
