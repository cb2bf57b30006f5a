use Rattle.std.proofs.Common.{◌≡◌, sym, ap, ◌∙◌}
use Rattle.buf_pool.specs.declared.record.PoolRecord.TheVariants.{Take}
use Rattle.std.specs.Option.{is_some}
use Rattle.buf_pool.specs.Records.{PoolStep}
use Rattle.txn_store.specs.Cells.{PoolStands}
use Rattle.buf_pool.specs.declared.record.PoolRecord.{PoolRecord}
use Rattle.turn_table.specs.Tables.{fixed_of}
use Rattle.turn_table.specs.Passes.{history_of}
use Rattle.turn_table.proofs.Objects.{did_in_turn, runs_told}
use Rattle.txn_store.proofs.Cells.{pool_name, block_name}
use Rattle.txn_store.proofs.pool_cell.take_block.Goals as goal

pub returns-clause-block : goal.returns-clause-block
returns-clause-block g c = block_name (fixed_of c.args.pool.now).value c.take-turn.result.value.pool _ _ c.take-block.result (pool_name _ _ _ c.take-turn.ensures.took.right) c.take-block.ensures.block

pub give_told-requires-clause-stands : goal.give_told-requires-clause-stands
give_told-requires-clause-stands g c κs =
    let t = c.take-turn.ensures.took in
    let x : PoolRecord = Take (is_some c.take-block.result) in (
      x,
      sym (ap Take c.is_some-taken.ensures),
      runs_told PoolStep (fixed_of c.args.pool.now).value c.take-turn.result.value.pool c.take-block.new.self c.take-turn.result.cell 0 x (history_of c.take-turn.new.pass) t.cell t.right c.take-block.ensures.step,
    )

pub returns-clause-did : goal.returns-clause-did
returns-clause-did g c =
    let t = c.take-turn.ensures.took in
    let x : PoolRecord = Take (is_some c.take-block.result) in
    did_in_turn PoolStands PoolStep (fixed_of c.args.pool.now).value c.take-turn.result.value.pool c.take-block.new.self (fixed_of c.args.pool.now) 0 c.args.pass.now c.take-turn.new.pass c.give_told.new.pass c.take-turn.result
    (λ (y : PoolRecord). y ≡ Take c.is_some-taken.result) x (λ y is. is ∙ ap Take c.is_some-taken.ensures) c.take-turn.ensures.same t c.give_told.ensures.same c.give_told.ensures.gave t.right c.take-block.ensures.step
