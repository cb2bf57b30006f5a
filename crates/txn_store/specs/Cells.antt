-- What the index, the wheel and the pool are in their cells, after the calls of their histories.
use Rattle.std.specs.Prelude.{ℕ, List, None, replicate}
use Rattle.std.specs.declared.snapshot.Snapshot.{Snapshot}
use Rattle.histories.specs.Runs.{Runs}
use Rattle.timer_wheel.specs.Timers.{Timers}
use Rattle.timer_wheel.specs.Records.{WheelStep}
use Rattle.timer_wheel.specs.declared.record.WheelRecord.{WheelRecord}
use Rattle.buf_pool.specs.Pools.{PoolState}
use Rattle.buf_pool.specs.Records.{PoolStep}
use Rattle.buf_pool.specs.declared.record.PoolRecord.{PoolRecord}
use Rattle.txn_store.specs.declared.record.IndexRecord.{IndexRecord}
use Rattle.txn_store.specs.declared.wheel_cell.WheelCell.{WheelCell}
use Rattle.txn_store.specs.declared.pool_cell.PoolCell.{PoolCell}
use Rattle.txn_store.specs.Places.{Places, vacant_places}
use Rattle.txn_store.specs.Records.{IndexStep}

-- an index of so many slots, in which no key is held at first, is this one after these calls
abbrev pub IndexStands : ℕ → ℕ → Places → List IndexRecord → Type 0
IndexStands slots k places rs = Runs IndexStep (vacant_places slots) rs places

-- a wheel of so many slots, in which no timer is set
abbrev pub idle_wheel : ℕ → Timers
idle_wheel slots = replicate slots None

abbrev pub WheelStands : ℕ → ℕ → WheelCell → List WheelRecord → Type 0
WheelStands slots k c rs = Runs WheelStep (idle_wheel slots) rs c.wheel

-- the pool that is shown is this one after these calls
abbrev pub PoolStands : Snapshot PoolState → ℕ → PoolCell → List PoolRecord → Type 0
PoolStands first k c rs = Runs PoolStep first.value rs c.pool
