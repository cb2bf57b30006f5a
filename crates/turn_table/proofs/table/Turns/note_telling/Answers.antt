use Rattle.std.proofs.Common.{rules, arith, sym}
use Rattle.turn_table.proofs.Rule.{notes_allowed}
use Rattle.turn_table.proofs.table.Turns.note_telling.Goals as goal

pub load-requires : goal.load-requires
load-requires g c = (search rules, let w = c.args.self.now.wide in let k = c.slot_count.ensures in omega arith, notes_allowed _ _ g.C.TurnCell.stands _ _ _ _ _ g.W.Tells.told c.requires.own.1 (sym c.slot_count.ensures) c.requires.some)
