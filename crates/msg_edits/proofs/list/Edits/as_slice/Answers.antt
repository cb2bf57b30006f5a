use Rattle.msg_edits.proofs.list.Edits.as_slice.Goals as goal

pub returns-clause-once : goal.returns-clause-once
returns-clause-once c = rw (← c.self.view_is) c.self.invariant
