use Rattle.std.proofs.Common.{◌≡◌, ℕ, ◌+◌, ◌%◌, refl, sym, ◌∙◌}
use Rattle.turn_table.specs.Passes.{history_of}
use Rattle.turn_table.proofs.Objects.{runs_told}
use Rattle.txn_store.proofs.shared_tests.add.Goals as goal

pub give_told-requires-clause-stands : goal.give_told-requires-clause-stands
give_told-requires-clause-stands g c κs =
    let t = c.take-turn.ensures.took in (
      c.args.amount,
      refl,
      (
        t.right.0 ∙ sym t.cell,
        runs_told (λ (old r new : ℕ). new ≡ (old + r) % 18446744073709551616) 0 c.take-turn.result.value.value.value _ c.take-turn.result.cell 0 c.args.amount (history_of c.take-turn.new.pass) t.cell t.right.1 refl,
      ),
    )
