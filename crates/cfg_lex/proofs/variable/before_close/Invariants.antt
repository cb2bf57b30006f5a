use Rattle.std.proofs.Common.{◌≡◌, ◌≤◌}
use Rattle.cfg_tree.specs.Variables.{before_close}
use Rattle.cfg_lex.proofs.Seeks.{seek}
use Rattle.cfg_lex.proofs.variable.before_close.Given as goal

abbrev pub invariant-loop-at : goal.invariant-loop-at
invariant-loop-at l = (l.opened ≤ l.at) × (seek (before_close l.opened) l.text l.at ≡ before_close 0 l.text)
