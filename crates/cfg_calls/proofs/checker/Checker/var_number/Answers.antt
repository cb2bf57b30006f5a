use Rattle.std.proofs.Common.{◌∙◌}
use Rattle.cfg_calls.proofs.Numbering.{numbers}
use Rattle.cfg_calls.proofs.checker.Checker.var_number.Goals as goal

pub returns : goal.returns
returns c = rw (← c.self.view_is) (numbers c.args.name.now _ _ _ (c.in_ok-number.ensures.number ∙ c.in_ok-place.ensures.place) c.in_ok-place.ensures.names)
