use Rattle.slot_lists.proofs.Words.{levels_set}
use Rattle.slot_lists.proofs.free.FreeSlots.add.Goals as goal

pub invariant_of-self : goal.invariant_of-self
invariant_of-self c = levels_set _ _ _ _ c.args.slot c.self.invariant c.set.ensures.room c.set-2.ensures.room c.set.ensures.has c.set-2.ensures.has
