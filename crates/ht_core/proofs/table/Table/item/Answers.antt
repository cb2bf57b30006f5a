use Rattle.std.proofs.Common.{◌≡◌, cond, Some, None, sym, ap, ◌∙◌, true, false}
use Rattle.ht_core.specs.Tables.{present}
use Rattle.ht_core.proofs.Items.{get-live}
use Rattle.ht_core.proofs.table.Table.item.Goals as goal
use Rattle.ht_core.proofs.table.Table.item.Goals.{in_default-via-in-Some+else-is_live, in_default-via-in_default}

pub returns-in-Some : goal.returns-in-Some
returns-in-Some c =
    let s = c.args.self.now in
    sym (get-live s.clock s.held c.args.name.now ∙ ap (present s.clock) (sym c.in-Some.ensures)
    ∙ ap (λ b. cond b (Some c.in-Some.item.now) None) (sym c.if-is_live.ensures))

pub returns-in_default : goal.returns-in_default
returns-in_default c =
    let s = c.args.self.now in
    elim c.in_default.branch [
      | in_default-via-in-Some+else-is_live w ↦ sym (get-live s.clock s.held c.args.name.now ∙ ap (present s.clock) (sym w.in-Some.ensures)
          ∙ ap (λ b. cond b (Some w.in-Some.item.now) None) (sym w.if-is_live.ensures))
      | in_default-via-in_default w ↦ sym (get-live s.clock s.held c.args.name.now ∙ ap (present s.clock) (sym w.in_default.ensures))
    ]
