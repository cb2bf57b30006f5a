use Rattle.std.proofs.Common.{◌≡◌, ap, subst, ◌∙◌, true}
use Rattle.std.specs.Prelude.{OnOk}
use Rattle.std.specs.FinMap as map
use Rattle.ht_core.specs.Tables.{Items, is_live, live}
use Rattle.ht_core.proofs.Items.{state, live-insert, lives, OnOk-map}
use Rattle.ht_core.proofs.table.Table.assign.Goals as goal

pub returns-clause-ok : goal.returns-clause-ok
returns-clause-ok c =
    let s = c.args.self.now in
    OnOk-map c.put.result _ _ (λ e. ap (λ items. state s.spec s.clock (live s.clock items)) e
    ∙ rw (← c.due_after-due.ensures) (ap (state s.spec s.clock) (live-insert s.clock s.held c.args.name _
    (rw c.due_after-due.ensures (lives s.clock s.spec.autoexpire c.args.value))))) c.put.ensures.ok
