use Rattle.std.proofs.Common.{◌≡◌, refl, sym, ◌∙◌}
use Rattle.buf_pool.specs.declared.record.PoolRecord.TheVariants.{Give}
use Rattle.buf_pool.specs.Records.{PoolStep}
use Rattle.txn_store.specs.Cells.{PoolStands}
use Rattle.buf_pool.specs.declared.record.PoolRecord.{PoolRecord}
use Rattle.turn_table.specs.Tables.{fixed_of}
use Rattle.turn_table.specs.Passes.{history_of}
use Rattle.turn_table.proofs.Objects.{did_in_turn, runs_told}
use Rattle.txn_store.proofs.Cells.{pool_name}
use Rattle.txn_store.proofs.pool_cell.give_block.Goals as goal

pub give-requires : goal.give-requires
give-requires g c = c.requires.block ∙ sym (pool_name _ _ _ c.take-turn.ensures.took.right)

pub give_told-requires-clause-stands : goal.give_told-requires-clause-stands
give_told-requires-clause-stands g c κs =
    let t = c.take-turn.ensures.took in
    let x : PoolRecord = Give in (
      x,
      refl,
      runs_told PoolStep (fixed_of c.args.pool.now).value c.take-turn.result.value.pool c.give.new.self c.take-turn.result.cell 0 x (history_of c.take-turn.new.pass) t.cell t.right c.give.ensures.step,
    )

pub returns : goal.returns
returns g c =
    let t = c.take-turn.ensures.took in
    let x : PoolRecord = Give in
    did_in_turn PoolStands PoolStep (fixed_of c.args.pool.now).value c.take-turn.result.value.pool c.give.new.self (fixed_of c.args.pool.now) 0 c.args.pass.now c.take-turn.new.pass c.give_told.new.pass c.take-turn.result
    (λ (y : PoolRecord). y ≡ Give) x (λ y is. is) c.take-turn.ensures.same t c.give_told.ensures.same c.give_told.ensures.gave t.right c.give.ensures.step
