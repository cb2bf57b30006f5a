use Rattle.slot_lists.proofs.Words.{levels_clear_last, levels_clear_some}
use Rattle.slot_lists.proofs.free.FreeSlots.remove.Goals as goal

pub invariant_of-self : goal.invariant_of-self
invariant_of-self c = levels_clear_last _ _ _ _ c.args.slot c.self.invariant c.clear.ensures.room c.clear-then-is_empty.ensures.room c.clear.ensures.has (c.is_empty.ensures.empty c.if-is_empty.true) c.clear-then-is_empty.ensures.has

pub invariant_of-self-else-is_empty : goal.invariant_of-self-else-is_empty
invariant_of-self-else-is_empty c = let b = c.is_empty.ensures.some c.if-is_empty.false in levels_clear_some _ _ _ c.args.slot c.self.invariant c.clear.ensures.room c.clear.ensures.has b.0 b.1 b.2
