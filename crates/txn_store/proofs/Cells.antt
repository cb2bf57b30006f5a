-- What stays the same of an index, a wheel and a pool in their cells.
use Rattle.std.proofs.Common.{◌≡◌, ℕ, true, false, List, [], ◌∷◌, Option, Some, None, length, sym, ap, ◌∙◌}
use Rattle.std.specs.Option.{IfSome}
use Rattle.std.proofs.lemmas.List.{length-replicate}
use Rattle.histories.specs.Runs.{Runs}
use Rattle.timer_wheel.specs.Timers.{Timers}
use Rattle.timer_wheel.specs.Records.{WheelStep}
use Rattle.timer_wheel.specs.declared.record.WheelRecord.{WheelRecord}
use Rattle.timer_wheel.proofs.Runs.{runs_keep_slots as wheels_keep_slots}
use Rattle.buf_pool.specs.Pools.{PoolState, BlockState}
use Rattle.buf_pool.specs.Records.{PoolStep}
use Rattle.buf_pool.specs.declared.record.PoolRecord.{PoolRecord}
use Rattle.buf_pool.specs.declared.record.PoolRecord.TheVariants.{Take, Give, Free}
use Rattle.txn_store.specs.declared.record.IndexRecord.{IndexRecord}
use Rattle.txn_store.specs.Places.{Places, vacant_places}
use Rattle.txn_store.specs.Records.{IndexStep}
use Rattle.txn_store.specs.Cells.{idle_wheel}
use Rattle.txn_store.proofs.Runs.{runs_keep_slots}

pub index_slots : (slots : ℕ) (rs : List IndexRecord) (places : Places) → Runs IndexStep (vacant_places slots) rs places → length places ≡ slots
index_slots slots rs places runs = runs_keep_slots (vacant_places slots) places rs runs ∙ length-replicate slots _

pub wheel_slots : (slots : ℕ) (rs : List WheelRecord) (timers : Timers) → Runs WheelStep (idle_wheel slots) rs timers → length timers ≡ slots
wheel_slots slots rs timers runs = wheels_keep_slots (idle_wheel slots) timers rs runs ∙ length-replicate slots None

pub pool_name : (first : PoolState) (rs : List PoolRecord) (pool : PoolState) → Runs PoolStep first rs pool → pool.name ≡ first.name
pool_name first [] pool runs = sym (ap (λ (p : PoolState). p.name) runs)
pool_name first (Take true ∷ rs) pool runs = pool_name runs.0 rs pool runs.2 ∙ ap (λ (p : PoolState). p.name) runs.1.1
pool_name first (Take false ∷ rs) pool runs = pool_name runs.0 rs pool runs.2 ∙ ap (λ (p : PoolState). p.name) runs.1.1
pool_name first (Give ∷ rs) pool runs = pool_name runs.0 rs pool runs.2 ∙ ap (λ (p : PoolState). p.name) runs.1.1
pool_name first (Free free ∷ rs) pool runs = pool_name runs.0 rs pool runs.2 ∙ ap (λ (p : PoolState). p.name) runs.1.1

-- a block of the pool that is taken is one of the pool as it was at first
pub block_name : (first old : PoolState) (X Y : Type 0) (o : Option BlockState) → old.name ≡ first.name → IfSome o (λ b. (b.pool ≡ old.name) × X × Y) → IfSome o (λ b. b.pool ≡ first.name)
block_name first old X Y None is tells = tells
block_name first old X Y (Some b) is tells = tells.0 ∙ is
