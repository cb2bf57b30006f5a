use Rattle.msg_edits.proofs.Once.{once_take}
use Rattle.msg_edits.proofs.list.Edits.truncate.Goals as goal

pub invariant_of-self : goal.invariant_of-self
invariant_of-self c = rw c.truncate.ensures.items (once_take c.self.inside.list.items c.args.len c.self.invariant)
