use Rattle.std.proofs.Common.{◌≡◌, refl}
use Rattle.buf_pool.specs.declared.record.PoolRecord.TheVariants.{Free}
use Rattle.buf_pool.specs.Records.{PoolStep}
use Rattle.txn_store.specs.Cells.{PoolStands}
use Rattle.buf_pool.specs.declared.record.PoolRecord.{PoolRecord}
use Rattle.turn_table.specs.Tables.{fixed_of}
use Rattle.turn_table.specs.Passes.{history_of}
use Rattle.turn_table.proofs.Objects.{did_in_turn, runs_told}
use Rattle.txn_store.proofs.pool_cell.free_blocks.Goals as goal

pub give_told-requires-clause-stands : goal.give_told-requires-clause-stands
give_told-requires-clause-stands g c κs =
    let t = c.take-turn.ensures.took in
    let x : PoolRecord = Free c.free-free.result in (
      x,
      refl,
      runs_told PoolStep (fixed_of c.args.pool.now).value c.take-turn.result.value.pool c.take-turn.result.value.pool c.take-turn.result.cell 0 x (history_of c.take-turn.new.pass) t.cell t.right c.free-free.ensures.step,
    )

pub returns : goal.returns
returns g c =
    let t = c.take-turn.ensures.took in
    let x : PoolRecord = Free c.free-free.result in
    did_in_turn PoolStands PoolStep (fixed_of c.args.pool.now).value c.take-turn.result.value.pool c.take-turn.result.value.pool (fixed_of c.args.pool.now) 0 c.args.pass.now c.take-turn.new.pass c.give_told.new.pass c.take-turn.result
    (λ (y : PoolRecord). y ≡ Free c.free-free.result) x (λ y is. is) c.take-turn.ensures.same t c.give_told.ensures.same c.give_told.ensures.gave t.right c.free-free.ensures.step
