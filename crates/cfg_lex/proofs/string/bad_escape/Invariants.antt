use Rattle.std.proofs.Common.{◌≡◌, ◌≤◌, ◌-◌, length}
use Rattle.cfg_lex.specs.Strings.{bad_escape}
use Rattle.cfg_lex.proofs.Seeks.{seek}
use Rattle.cfg_lex.proofs.string.bad_escape.Given as goal

abbrev pub invariant-loop-at : goal.invariant-loop-at
invariant-loop-at l = (l.at ≤ length l.text) × (seek bad_escape l.text l.at ≡ bad_escape l.text)

abbrev pub decreases-loop-at : goal.decreases-loop-at
decreases-loop-at l = length l.text - l.at
