use Rattle.std.proofs.Common.{◌≡◌, ℕ, List, Some, sym, ◌∙◌, subst}
use Rattle.std.specs.List.{slice_get}
use Rattle.ht_core.specs.declared.operation.TabRecord.{TabRecord}
use Rattle.ht_core.specs.Tables.{fresh, IsStep}
use Rattle.ht_core.specs.Shown.{state_of}
use Rattle.ht_core.specs.declared.table.Table.{Table}
use Rattle.turn_table.specs.Tables.{fixed_of}
use Rattle.turn_table.specs.Passes.{history_of}
use Rattle.turn_table.proofs.Objects.{did_in_turn, runs_told}
use Rattle.ht_shared.specs.Stands.{TableStands}
use Rattle.ht_shared.specs.Told.{operation}
use Rattle.ht_shared.proofs.tables.Tables.apply.Goals as goal

pub give_told-requires-clause-stands : goal.give_told-requires-clause-stands
give_told-requires-clause-stands g c κs =
    let t = c.take-turn.ensures.took in
    let f = fixed_of c.args.self.now.turns in
    let old = state_of c.take-turn.result.value.table.value in
    let new = state_of c.apply-reply.new.self in
    let x : TabRecord = record { op = c.args.op; now = c.args.now; reply = c.apply-reply.result } in
    let at : IsStep c.args.patterns.now old x new = subst (λ (t : Table). IsStep c.args.patterns.now (state_of t) x new) c.deref_mut.ensures.value c.apply-reply.ensures.step in
    let step = subst (λ (ps : List (List ℕ)). IsStep ps old x new) c.requires.patterns at in (
      x,
      (λ i. record { op = sym c.of-asked.ensures i; now = c.args.now; reply = sym c.of.ensures i }),
      (
        t.right.0,
        subst (λ (k : ℕ). slice_get f.specs.items k ≡ Some t.right.0) (sym t.cell) t.right.1,
        runs_told (IsStep f.patterns.value) (fresh t.right.0) old new c.take-turn.result.cell c.args.table x (history_of c.take-turn.new.pass) t.cell t.right.2 step,
      ),
    )

pub returns : goal.returns
returns g c =
    let t = c.take-turn.ensures.took in
    let f = fixed_of c.args.self.now.turns in
    let old = state_of c.take-turn.result.value.table.value in
    let new = state_of c.apply-reply.new.self in
    let x : TabRecord = record { op = c.args.op; now = c.args.now; reply = c.apply-reply.result } in
    let shown : x ≡ operation (record { op = c.of-asked.result; now = c.args.now; reply = c.of.result }) = λ i. record { op = sym c.of-asked.ensures i; now = c.args.now; reply = sym c.of.ensures i } in
    let at : IsStep c.args.patterns.now old x new = subst (λ (t : Table). IsStep c.args.patterns.now (state_of t) x new) c.deref_mut.ensures.value c.apply-reply.ensures.step in
    let step = subst (λ (ps : List (List ℕ)). IsStep ps old x new) c.requires.patterns at in record {
      spec = t.right.0;
      is_spec = t.right.1;
      did = did_in_turn TableStands (IsStep f.patterns.value) (fresh t.right.0) old new f c.args.table c.args.pass.now c.take-turn.new.pass c.give_told.new.pass c.take-turn.result
          (λ (y : TabRecord). y ≡ operation (record { op = c.of-asked.result; now = c.args.now; reply = c.of.result })) x (λ y is. is ∙ sym shown)
          c.take-turn.ensures.same t c.give_told.ensures.same c.give_told.ensures.gave t.right.2 step;
    }
