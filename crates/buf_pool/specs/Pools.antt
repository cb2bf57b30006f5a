-- A pool and its blocks as contracts see them.
use Rattle.std.specs.Prelude.{ℕ, ◌+◌, ◌-◌, List, length, take, drop, ◌++◌, refl}
use Rattle.std.specs.Coded.{Coded, code_by, coded×, coded_ℕ, coded_list}
use Rattle.atomic_table.specs.Seated.{table_id_coded}
use Rattle.buf_pool.specs.Ledgers.{LedgerName}

-- which pool it is, and how many of its blocks are free and how many are out
pub record PoolState : Type 0 where
  pub name : LedgerName
  pub free : ℕ
  pub out : ℕ

-- a block of a pool, and what it has in it
pub record BlockState : Type 0 where
  pub pool : LedgerName
  pub bytes : List ℕ

-- how many blocks the pool has, free and out together
abbrev pub size_of : PoolState → ℕ
size_of pool = pool.free + pool.out

-- a block goes out
abbrev pub after_take : PoolState → PoolState
after_take pool = record pool { free = pool.free - 1; out = pool.out + 1 }

-- a block comes back
abbrev pub after_give : PoolState → PoolState
after_give pool = record pool { free = pool.free + 1; out = pool.out - 1 }

-- the bytes once others are written over them, of which there are as many
abbrev pub overwritten : List ℕ → List ℕ → List ℕ
overwritten bytes written = take (length bytes) (written ++ drop (length written) bytes)

abbrev pub coded_pool : Coded PoolState
coded_pool =
    code_by (LedgerName × (ℕ × ℕ)) (coded× table_id_coded (coded× coded_ℕ coded_ℕ)) (λ p. (p.name, (p.free, p.out))) (λ t. record { name = t.0; free = t.1.0; out = t.1.1 }) (λ _. refl)

abbrev pub coded_block : Coded BlockState
coded_block =
    code_by (LedgerName × List ℕ) (coded× table_id_coded (coded_list coded_ℕ)) (λ b. (b.pool, b.bytes)) (λ p. record { pool = p.0; bytes = p.1 }) (λ _. refl)
