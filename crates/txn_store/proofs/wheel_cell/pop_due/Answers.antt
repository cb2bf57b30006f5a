use Rattle.std.proofs.Common.{◌≡◌, ◌<◌, ℕ, refl, subst}
use Rattle.timer_wheel.specs.declared.record.WheelRecord.TheVariants.{Pop}
use Rattle.timer_wheel.specs.Records.{WheelStep}
use Rattle.txn_store.specs.Cells.{WheelStands, idle_wheel}
use Rattle.timer_wheel.specs.declared.record.WheelRecord.{WheelRecord}
use Rattle.turn_table.specs.Tables.{fixed_of}
use Rattle.turn_table.specs.Passes.{history_of}
use Rattle.turn_table.proofs.Objects.{did_in_turn, runs_told}
use Rattle.std.specs.Option.{IfSome}
use Rattle.txn_store.proofs.Cells.{wheel_slots}
use Rattle.txn_store.proofs.wheel_cell.pop_due.Goals as goal

pub returns-clause-slot : goal.returns-clause-slot
returns-clause-slot g c = subst (λ (n : ℕ). IfSome c.pop_due-popped.result (λ popped. popped.0 < n)) (wheel_slots _ _ _ c.take-turn.ensures.took.right) c.pop_due-popped.ensures.in_range

pub give_told-requires-clause-stands : goal.give_told-requires-clause-stands
give_told-requires-clause-stands g c κs =
    let t = c.take-turn.ensures.took in
    let x : WheelRecord = Pop c.args.now c.pop_due-popped.result in (
      x,
      refl,
      runs_told WheelStep (idle_wheel (fixed_of c.args.wheel.now)) c.take-turn.result.value.wheel c.pop_due-popped.new.self c.take-turn.result.cell 0 x (history_of c.take-turn.new.pass) t.cell t.right c.pop_due-popped.ensures.step,
    )

pub returns-clause-did : goal.returns-clause-did
returns-clause-did g c =
    let t = c.take-turn.ensures.took in
    let x : WheelRecord = Pop c.args.now c.pop_due-popped.result in
    did_in_turn WheelStands WheelStep (idle_wheel (fixed_of c.args.wheel.now)) c.take-turn.result.value.wheel c.pop_due-popped.new.self (fixed_of c.args.wheel.now) 0 c.args.pass.now c.take-turn.new.pass c.give_told.new.pass c.take-turn.result
    (λ (y : WheelRecord). y ≡ Pop c.args.now c.pop_due-popped.result) x (λ y is. is) c.take-turn.ensures.same t c.give_told.ensures.same c.give_told.ensures.gave t.right c.pop_due-popped.ensures.step
