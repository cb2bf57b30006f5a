use Rattle.std.proofs.Common.{◌≡◌, ◌-◌, Option}
use Rattle.cfg_parse.specs.Reader.{Reader, Steps, many, many_from}
use Rattle.cfg_parse.proofs.repeat.many.Given as goal

abbrev pub invariant-loop-turn : goal.invariant-loop-turn
invariant-loop-turn g l = (step : Reader (Option g.row.A.Denot)) → Steps step (goal.F-post g l.next) → many step l.fn.found l.fn.tokens ≡ many_from step (l._turn-end - l._turn) l.found l.tokens
