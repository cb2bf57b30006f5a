use Rattle.std.proofs.Common.{ap, ◌∙◌}
use Rattle.std.specs.FinMap as map
use Rattle.ht_core.specs.declared.operation.TabReply.TheVariants as reply
use Rattle.ht_core.specs.Tables.{live}
use Rattle.ht_core.proofs.Items.{state, live-empty}
use Rattle.ht_core.proofs.table.Table.reset.Goals as goal

pub returns : goal.returns
returns c =
    let s = c.args.self.now in
    record {
      answered = ap reply.Count (c.keep_live-before.ensures.len ∙ ap (λ items. map.len items) c.keep_live-before.ensures.live);
      leaves = ap (λ items. state s.spec s.clock (live s.clock items)) c.clear.ensures ∙ ap (state s.spec s.clock) (live-empty s.clock);
    }
