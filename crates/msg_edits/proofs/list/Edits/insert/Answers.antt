use Rattle.msg_edits.proofs.Once.{once_insert}
use Rattle.msg_edits.proofs.list.Edits.insert.Goals as goal

pub invariant_of-self : goal.invariant_of-self
invariant_of-self c = rw c.push.ensures.items (once_insert c.self.inside.list.items c.args.place _ c.self.invariant)
