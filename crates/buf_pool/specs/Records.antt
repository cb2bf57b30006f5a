-- What each call of a pool answers and leaves: the pool as a relation between its numbers, a record and its numbers after it.
use Rattle.std.specs.Prelude.{◌≡◌, ℕ, suc, ◌<◌, Bool, true, false, List, [], ◌∷◌}
use Rattle.buf_pool.specs.declared.record.PoolRecord.{PoolRecord}
use Rattle.buf_pool.specs.declared.record.PoolRecord.TheVariants.{Take, Give, Free}
use Rattle.buf_pool.specs.Pools.{PoolState, after_take, after_give}

-- what a pool with these numbers answers: a take is answered a block exactly where one is free. A block comes back that is out
abbrev pub PoolAnswers : PoolState → PoolRecord → Type 0
PoolAnswers pool (Take true) = 0 < pool.free
PoolAnswers pool (Take false) = pool.free ≡ 0
PoolAnswers pool Give = 0 < pool.out
PoolAnswers pool (Free free) = free ≡ pool.free

-- the pool after a call
abbrev pub pool_after : PoolState → PoolRecord → PoolState
pool_after pool (Take true) = after_take pool
pool_after pool (Take false) = pool
pool_after pool Give = after_give pool
pool_after pool (Free free) = pool

abbrev pub PoolStep : PoolState → PoolRecord → PoolState → Type 0
PoolStep old r new = PoolAnswers old r × (new ≡ pool_after old r)

-- how many blocks these calls took, and how many they gave back
abbrev pub takes : List PoolRecord → ℕ
takes [] = 0
takes (Take true ∷ rs) = suc (takes rs)
takes (Take false ∷ rs) = takes rs
takes (Give ∷ rs) = takes rs
takes (Free free ∷ rs) = takes rs

abbrev pub gives : List PoolRecord → ℕ
gives [] = 0
gives (Take taken ∷ rs) = gives rs
gives (Give ∷ rs) = suc (gives rs)
gives (Free free ∷ rs) = gives rs
