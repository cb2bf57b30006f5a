-- A ledger stays balanced where a share goes out or comes back, and the first of its holders is the keeper.
use Rattle.std.proofs.Common.{◌≡◌, ℕ, zero, suc, ◌+◌, List, [], ◌∷◌, ◌++◌, set, refl, sym, ap, ◌∙◌, subst, arith}
use mathlib.Core.Option.{some, some-injective, some-ne-none}
use lib.ListN.{get_elem?}
use Rattle.buf_pool.specs.declared.ledger.Holder.{Holder}
use Rattle.buf_pool.specs.declared.ledger.Holder.TheVariants.{Keeper, Lent, Returned}
use Rattle.buf_pool.specs.Holders.{shares_out, IsBalanced, one_more_out, one_fewer_out}

shares_out-lent : (holders : List Holder) → shares_out (holders ++ Lent ∷ []) ≡ shares_out holders + 1
shares_out-lent [] = refl
shares_out-lent (Keeper n ∷ holders) = shares_out-lent holders
shares_out-lent (Lent ∷ holders) = ap (λ n. n + 1) (shares_out-lent holders)
shares_out-lent (Returned ∷ holders) = shares_out-lent holders

shares_out-returned : (holders : List Holder) (i : ℕ) → get_elem? holders i ≡ some Lent → shares_out (set holders i Returned) + 1 ≡ shares_out holders
shares_out-returned [] i e = absurd (some-ne-none Lent (sym e))
shares_out-returned (holder ∷ holders) zero e = let is : holder ≡ Lent = some-injective holder Lent e in sym (ap (λ h. shares_out (h ∷ holders)) is)
shares_out-returned (Keeper n ∷ holders) (suc i) e = shares_out-returned holders i e
shares_out-returned (Lent ∷ holders) (suc i) e = ap (λ n. n + 1) (shares_out-returned holders i e)
shares_out-returned (Returned ∷ holders) (suc i) e = shares_out-returned holders i e

abbrev IsKeeper : Holder → Type 0
IsKeeper v = (n : ℕ) × (v ≡ Keeper n)

-- what the first holder knows
knows : (v : Holder) (views : List Holder) → IsBalanced views → get_elem? views 0 ≡ some v → (others : List Holder) × (views ≡ v ∷ others) × (v ≡ Keeper (shares_out others))
knows v [] balanced at = absurd balanced
knows v (holder ∷ holders) balanced at = let is : holder ≡ v = some-injective holder v at in (holders, ap (λ h. h ∷ holders) is, sym is ∙ balanced)

lends_first : (v : Holder) (others : List Holder) → v ≡ Keeper (shares_out others) → IsBalanced (one_more_out v ∷ (others ++ Lent ∷ []))
lends_first v others is = ap one_more_out is ∙ ap Keeper (sym (shares_out-lent others))

pub lends : (id : ℕ) (v : Holder) (views : List Holder) → id ≡ 0 → IsBalanced views → get_elem? views id ≡ some v → IsBalanced (set views id (one_more_out v) ++ Lent ∷ [])
lends id v views first balanced at =
    let k = knows v views balanced (ap (get_elem? views) (sym first) ∙ at) in
    subst (λ z. IsBalanced (set views z (one_more_out v) ++ Lent ∷ [])) (sym first)
    (subst (λ vs. IsBalanced (set vs 0 (one_more_out v) ++ Lent ∷ [])) (sym k.1) (lends_first v k.0 k.2))

returns_first : (v : Holder) (others : List Holder) (i : ℕ) → v ≡ Keeper (shares_out others) → get_elem? others i ≡ some Lent → IsBalanced (one_fewer_out v ∷ set others i Returned)
returns_first v others i is lent =
    let one_was : shares_out others ≡ suc (shares_out (set others i Returned)) = let e = shares_out-returned others i lent in omega arith in
    ap one_fewer_out (is ∙ ap Keeper one_was)

returns_other : (v : Holder) (others : List Holder) (other : ℕ) → v ≡ Keeper (shares_out others) → ¬ (other ≡ 0) → get_elem? (one_fewer_out v ∷ others) other ≡ some Lent → IsBalanced (set (one_fewer_out v ∷ others) other Returned)
returns_other v others zero is apart lent = absurd (apart refl)
returns_other v others (suc i) is apart lent = returns_first v others i is lent

pub returns : (id : ℕ) (v : Holder) (other : ℕ) (w : Holder) (views : List Holder) → id ≡ 0 → w ≡ Lent → IsBalanced views → get_elem? views id ≡ some v → ¬ (other ≡ id) → get_elem? (set views id (one_fewer_out v)) other ≡ some w
    → IsBalanced (set (set views id (one_fewer_out v)) other Returned)
returns id v other w views first is_lent balanced at apart there =
    let k = knows v views balanced (ap (get_elem? views) (sym first) ∙ at) in
    let at_other : get_elem? (one_fewer_out v ∷ k.0) other ≡ some Lent = subst (λ vs. get_elem? (set vs 0 (one_fewer_out v)) other ≡ some Lent) k.1
    (subst (λ z. get_elem? (set views z (one_fewer_out v)) other ≡ some Lent) first (there ∙ ap some is_lent)) in
    subst (λ z. IsBalanced (set (set views z (one_fewer_out v)) other Returned)) (sym first)
    (subst (λ vs. IsBalanced (set (set vs 0 (one_fewer_out v)) other Returned)) (sym k.1)
    (returns_other v k.0 other k.2 (λ e. apart (e ∙ sym first)) at_other))

-- a look by the first holder
pub looks : (id : ℕ) (v : Holder) (views : List Holder) → id ≡ 0 → IsBalanced views → get_elem? views id ≡ some v → IsBalanced (set views id v) × IsKeeper v
looks id v views first balanced at =
    let k = knows v views balanced (ap (get_elem? views) (sym first) ∙ at) in
    (subst (λ z. IsBalanced (set views z v)) (sym first) (subst (λ vs. IsBalanced (set vs 0 v)) (sym k.1) k.2), (shares_out k.0, k.2))
