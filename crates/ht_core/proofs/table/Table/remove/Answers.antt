use Rattle.std.proofs.Common.{ap, ◌∙◌}
use Rattle.ht_core.specs.Tables.{live}
use Rattle.ht_core.proofs.Items.{state, live-remove}
use Rattle.ht_core.proofs.table.Table.remove.Goals as goal

pub returns-clause-leaves : goal.returns-clause-leaves
returns-clause-leaves c =
    let s = c.args.self.now in
    ap (λ items. state s.spec s.clock (live s.clock items)) c.remove.ensures ∙ ap (state s.spec s.clock) (live-remove s.clock s.held c.args.name.now)
