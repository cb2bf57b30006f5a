use Rattle.std.proofs.Common.{◌≡◌, refl, arith}
use Rattle.timer_wheel.specs.declared.record.WheelRecord.TheVariants.{Clear}
use Rattle.timer_wheel.specs.Records.{WheelStep}
use Rattle.txn_store.specs.Cells.{WheelStands, idle_wheel}
use Rattle.timer_wheel.specs.declared.record.WheelRecord.{WheelRecord}
use Rattle.turn_table.specs.Tables.{fixed_of}
use Rattle.turn_table.specs.Passes.{history_of}
use Rattle.turn_table.proofs.Objects.{did_in_turn, runs_told}
use Rattle.txn_store.proofs.Cells.{wheel_slots}
use Rattle.txn_store.proofs.wheel_cell.clear_timer.Goals as goal

pub clear-requires : goal.clear-requires
clear-requires g c = let n = wheel_slots _ _ _ c.take-turn.ensures.took.right in let l = c.requires.slot in omega arith

pub give_told-requires-clause-stands : goal.give_told-requires-clause-stands
give_told-requires-clause-stands g c κs =
    let t = c.take-turn.ensures.took in
    let x : WheelRecord = Clear c.args.slot in (
      x,
      refl,
      runs_told WheelStep (idle_wheel (fixed_of c.args.wheel.now)) c.take-turn.result.value.wheel c.clear.new.self c.take-turn.result.cell 0 x (history_of c.take-turn.new.pass) t.cell t.right c.clear.ensures.step,
    )

pub returns : goal.returns
returns g c =
    let t = c.take-turn.ensures.took in
    let x : WheelRecord = Clear c.args.slot in
    did_in_turn WheelStands WheelStep (idle_wheel (fixed_of c.args.wheel.now)) c.take-turn.result.value.wheel c.clear.new.self (fixed_of c.args.wheel.now) 0 c.args.pass.now c.take-turn.new.pass c.give_told.new.pass c.take-turn.result
    (λ (y : WheelRecord). y ≡ Clear c.args.slot) x (λ y is. is) c.take-turn.ensures.same t c.give_told.ensures.same c.give_told.ensures.gave t.right c.clear.ensures.step
