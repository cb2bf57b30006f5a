use Rattle.cfg_parse.proofs.Turns.{stops}
use Rattle.cfg_parse.proofs.repeat.many.Goals as goal

pub returns-in-Ok-None : goal.returns-in-Ok-None
returns-in-Ok-None g c = λ step is. stops step _ c.loop-turn._turn c.loop-turn.found c.loop-turn.tokens _ (c.loop-turn.invariant step is) c.loop-turn-test.true (rw c.in-Ok-None.field-0-is at (is _ _ _ c.in-Ok-None.ensures))
