use Rattle.std.proofs.Common.{◌≡◌, sym, ap, ◌∙◌}
use Rattle.server_key.specs.Keys.{shown_key}
use Rattle.txn_store.specs.declared.record.IndexRecord.TheVariants.{Claim}
use Rattle.txn_store.specs.Places.{vacant_places}
use Rattle.txn_store.specs.Records.{IndexStep}
use Rattle.txn_store.specs.Cells.{IndexStands}
use Rattle.txn_store.specs.declared.record.IndexRecord.{IndexRecord}
use Rattle.turn_table.specs.Tables.{fixed_of}
use Rattle.turn_table.specs.Passes.{history_of}
use Rattle.turn_table.proofs.Objects.{did_in_turn, runs_told}
use Rattle.txn_store.proofs.index_cell.claim_key.Goals as goal

pub give_told-requires-clause-stands : goal.give_told-requires-clause-stands
give_told-requires-clause-stands g c κs =
    let t = c.take-turn.ensures.took in
    let x : IndexRecord = Claim (shown_key c.args.key) c.claim-end.result in (
      x,
      ap (λ k. Claim (shown_key k) c.claim-end.result) (sym c.of.ensures),
      runs_told IndexStep (vacant_places (fixed_of c.args.index.now)) c.take-turn.result.value c.claim-end.new.self c.take-turn.result.cell 0 x (history_of c.take-turn.new.pass) t.cell t.right c.claim-end.ensures.step,
    )

pub returns : goal.returns
returns g c =
    let t = c.take-turn.ensures.took in
    let x : IndexRecord = Claim (shown_key c.args.key) c.claim-end.result in
    did_in_turn IndexStands IndexStep (vacant_places (fixed_of c.args.index.now)) c.take-turn.result.value c.claim-end.new.self (fixed_of c.args.index.now) 0 c.args.pass.now c.take-turn.new.pass c.give_told.new.pass c.take-turn.result
    (λ (y : IndexRecord). y ≡ Claim (shown_key c.of.result.value) c.claim-end.result) x (λ y is. is ∙ sym (ap (λ k. Claim (shown_key k) c.claim-end.result) (sym c.of.ensures))) c.take-turn.ensures.same t c.give_told.ensures.same c.give_told.ensures.gave t.right c.claim-end.ensures.step
