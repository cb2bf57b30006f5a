-- The rule of a ledger: its keeper knows how many shares are out.
use Rattle.std.specs.Prelude.{◌≡◌, ℕ, zero, suc, ◌+◌, List, [], ◌∷◌}
use Rattle.atomic_table.specs.Table.{State, Me, Step}
use Rattle.buf_pool.specs.declared.ledger.Holder.{Holder}
use Rattle.buf_pool.specs.declared.ledger.Holder.TheVariants.{Keeper, Lent, Returned}

-- how many shares are out
abbrev pub shares_out : List Holder → ℕ
shares_out [] = 0
shares_out (Keeper n ∷ holders) = shares_out holders
shares_out (Lent ∷ holders) = shares_out holders + 1
shares_out (Returned ∷ holders) = shares_out holders

-- the first of the holders is the keeper, and knows how many shares the others have
abbrev pub IsBalanced : List Holder → Type 0
IsBalanced [] = ⊥
IsBalanced (keeper ∷ holders) = keeper ≡ Keeper (shares_out holders)

abbrev pub IsKept : {S : Type 0} → State S Holder → Type 0
IsKept s = IsBalanced s.views

-- the keeper after one share more is out, and after one came back
abbrev pub one_more_out : Holder → Holder
one_more_out (Keeper n) = Keeper (n + 1)
one_more_out Lent = Lent
one_more_out Returned = Returned

abbrev pub one_fewer_out : Holder → Holder
one_fewer_out (Keeper zero) = Returned
one_fewer_out (Keeper (suc n)) = Keeper n
one_fewer_out Lent = Lent
one_fewer_out Returned = Returned

-- a look changes nothing, and shows that the one who looks is the keeper
abbrev pub ShowsKeeper : {S : Type 0} → Step S → Me S Holder → ℕ → Me S Holder → Type 0
ShowsKeeper step before found after = (after ≡ before) × ((n : ℕ) × (before.0 ≡ Keeper n))
