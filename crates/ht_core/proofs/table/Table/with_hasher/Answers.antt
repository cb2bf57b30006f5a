use Rattle.std.proofs.Common.{ap, ◌∙◌}
use Rattle.ht_core.specs.Tables.{live}
use Rattle.ht_core.proofs.Items.{state, live-empty}
use Rattle.ht_core.proofs.table.Table.with_hasher.Goals as goal

pub returns : goal.returns
returns c = ap (λ items. state c.args.spec 0 (live 0 items)) c.new.ensures ∙ ap (state c.args.spec 0) (live-empty 0)
