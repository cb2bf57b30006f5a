use Rattle.std.proofs.Common.{arith, ap, length, ◌/◌, ◌<◌}
use Rattle.slot_lists.proofs.Words.{has_clear}
use Rattle.slot_lists.proofs.bits.Bits.clear.Goals as goal

pub returns-clause-has : goal.returns-clause-has
returns-clause-has c = let v = ap length c.self.view_is in let l : c.args.bit / 64 < length c.self.inside.words.items = omega arith in
    rw (← c.self.view_is) (has_clear c.self.inside.words.items c.args.bit c.index_mut.result.now l c.index_mut.ensures.value)
