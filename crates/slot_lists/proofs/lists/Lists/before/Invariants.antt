use Rattle.slot_lists.proofs.Links.{HasCome, left}
use Rattle.slot_lists.proofs.lists.Lists.before.Given as goal

abbrev pub invariant-loop-next : goal.invariant-loop-next
invariant-loop-next l = HasCome l.self.places l.list l.slot l.before l.next

abbrev pub decreases-loop-next : goal.decreases-loop-next
decreases-loop-next l = left l.self.places l.next
