-- Runs of a pool.
use Rattle.std.proofs.Common.{◌≡◌, ℕ, zero, suc, ◌+◌, ◌<◌, List, [], ◌∷◌, true, false, ap, ◌∙◌, refl, sym, arith}
use Rattle.histories.specs.Runs.{Runs}
use Rattle.buf_pool.specs.declared.record.PoolRecord.{PoolRecord}
use Rattle.buf_pool.specs.declared.record.PoolRecord.TheVariants.{Take, Give, Free}
use Rattle.buf_pool.specs.Pools.{PoolState, size_of}
use Rattle.buf_pool.specs.Records.{PoolStep, takes, gives}

pub free_balance : (s u : PoolState) (rs : List PoolRecord) → Runs PoolStep s rs u → u.free + takes rs ≡ s.free + gives rs
free_balance s u [] a = ap (λ (p : PoolState). p.free + 0) (sym a)
free_balance s u (Take true ∷ rs) a =
    let k = free_balance a.0 u rs a.2 in let e = ap (λ (p : PoolState). p.free) a.1.1 in let l = a.1.0 in omega arith
free_balance s u (Take false ∷ rs) a = let k = free_balance a.0 u rs a.2 in let e = ap (λ (p : PoolState). p.free) a.1.1 in omega arith
free_balance s u (Give ∷ rs) a = let k = free_balance a.0 u rs a.2 in let e = ap (λ (p : PoolState). p.free) a.1.1 in omega arith
free_balance s u (Free n ∷ rs) a = let k = free_balance a.0 u rs a.2 in let e = ap (λ (p : PoolState). p.free) a.1.1 in omega arith

pub out_balance : (s u : PoolState) (rs : List PoolRecord) → Runs PoolStep s rs u → u.out + gives rs ≡ s.out + takes rs
out_balance s u [] a = ap (λ (p : PoolState). p.out + 0) (sym a)
out_balance s u (Take true ∷ rs) a = let k = out_balance a.0 u rs a.2 in let e = ap (λ (p : PoolState). p.out) a.1.1 in omega arith
out_balance s u (Take false ∷ rs) a = let k = out_balance a.0 u rs a.2 in let e = ap (λ (p : PoolState). p.out) a.1.1 in omega arith
out_balance s u (Give ∷ rs) a =
    let k = out_balance a.0 u rs a.2 in let e = ap (λ (p : PoolState). p.out) a.1.1 in let l = a.1.0 in omega arith
out_balance s u (Free n ∷ rs) a = let k = out_balance a.0 u rs a.2 in let e = ap (λ (p : PoolState). p.out) a.1.1 in omega arith

pub size_stays : (s u : PoolState) (rs : List PoolRecord) → Runs PoolStep s rs u → size_of u ≡ size_of s
size_stays s u rs a = let f = free_balance s u rs a in let o = out_balance s u rs a in omega arith
