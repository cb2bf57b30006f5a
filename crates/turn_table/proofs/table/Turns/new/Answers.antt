use Rattle.std.proofs.Common.{rules, ◌+◌, arith, ap, ◌∙◌, replicate}
use Rattle.turn_table.proofs.Passes.{opens_as, all_new_in}
use Rattle.turn_table.proofs.table.Turns.new.Goals as goal

pub new-requires-2 : goal.new-requires-2
new-requires-2 g c = let l = c.args.cells.ok.0 in opens_as _ _ g.C.TurnCell.stands _ _ _ c.args.cells.items c.in_ok-slots.ensures (c.as_slice.ensures.value ∙ (c.in_ok-words.ensures ∙ ap (λ n. replicate (n + 1) 0) (search rules))) c.requires.stand

pub returns-clause-passes : goal.returns-clause-passes
returns-clause-passes g c = let d = c.deal_passes-first.ensures in let l = c.deal_passes-first.new.passes.ok.0 in
    all_new_in c.in-Ok.table.shared.table_id c.in-Ok.table.shared.key c.args.fixed.now c.args.workers c.deal_passes-first.result c.deal_passes-first.new.passes.items c.insert.new.self.items
    d.first.0 d.first.1 d.first.2 d.others (let n = d.count in omega arith) c.in-Ok.ensures.ok.5 c.in-Ok-insert.ensures.items
