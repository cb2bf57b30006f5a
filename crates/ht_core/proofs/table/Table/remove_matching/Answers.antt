use Rattle.ht_core.specs.Tables.{is_found_by}
use Rattle.ht_core.proofs.Items.{fewer, taken}
use Rattle.ht_core.proofs.table.Table.remove_matching.Goals as goal

pub overflow_sub-result : goal.overflow_sub-result
overflow_sub-result c =
    let s = c.args.self.now in
    fewer s.spec s.clock s.held _ _ (is_found_by c.args.matcher) _ _ c.keep_live-before.ensures.live c.keep_live-before.ensures.len c.remove_matching.ensures c.len.ensures

pub returns : goal.returns
returns c =
    let s = c.args.self.now in
    taken s.spec s.clock s.held _ _ (is_found_by c.args.matcher) _ _ c.keep_live-before.ensures.live c.keep_live-before.ensures.len c.remove_matching.ensures c.len.ensures
