use Rattle.fork_core.proofs.Best.{irreflexive, transitive, total}
use Rattle.fork_core.proofs.laws.preference_is_a_strict_order.Goals as goal

pub returns-clause-irreflexive : goal.returns-clause-irreflexive
returns-clause-irreflexive c = irreflexive

pub returns-clause-transitive : goal.returns-clause-transitive
returns-clause-transitive c = transitive

pub returns-clause-total : goal.returns-clause-total
returns-clause-total c = total
