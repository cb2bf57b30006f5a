use Rattle.std.proofs.Common.{◌≡◌, refl, arith}
use Rattle.txn_store.specs.declared.record.IndexRecord.TheVariants.{Free}
use Rattle.txn_store.specs.Places.{vacant_places}
use Rattle.txn_store.specs.Records.{IndexStep}
use Rattle.txn_store.specs.Cells.{IndexStands}
use Rattle.txn_store.specs.declared.record.IndexRecord.{IndexRecord}
use Rattle.turn_table.specs.Tables.{fixed_of}
use Rattle.turn_table.specs.Passes.{history_of}
use Rattle.turn_table.proofs.Objects.{did_in_turn, runs_told}
use Rattle.txn_store.proofs.Cells.{index_slots}
use Rattle.txn_store.proofs.index_cell.free_slot.Goals as goal

pub free-requires : goal.free-requires
free-requires g c = let n = index_slots _ _ _ c.take-turn.ensures.took.right in let l = c.requires.slot in omega arith

pub give_told-requires-clause-stands : goal.give_told-requires-clause-stands
give_told-requires-clause-stands g c κs =
    let t = c.take-turn.ensures.took in
    let x : IndexRecord = Free c.args.slot in (
      x,
      refl,
      runs_told IndexStep (vacant_places (fixed_of c.args.index.now)) c.take-turn.result.value c.free.new.self c.take-turn.result.cell 0 x (history_of c.take-turn.new.pass) t.cell t.right c.free.ensures.step,
    )

pub returns : goal.returns
returns g c =
    let t = c.take-turn.ensures.took in
    let x : IndexRecord = Free c.args.slot in
    did_in_turn IndexStands IndexStep (vacant_places (fixed_of c.args.index.now)) c.take-turn.result.value c.free.new.self (fixed_of c.args.index.now) 0 c.args.pass.now c.take-turn.new.pass c.give_told.new.pass c.take-turn.result
    (λ (y : IndexRecord). y ≡ Free c.args.slot) x (λ y is. is) c.take-turn.ensures.same t c.give_told.ensures.same c.give_told.ensures.gave t.right c.free.ensures.step
