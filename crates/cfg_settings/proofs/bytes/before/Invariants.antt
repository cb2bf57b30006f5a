use Rattle.std.proofs.Common.{◌≡◌, ◌+◌, drop}
use Rattle.cfg_tree.specs.Variables.{before}
use Rattle.cfg_settings.proofs.bytes.before.Given as goal

abbrev pub invariant-loop-at : goal.invariant-loop-at
invariant-loop-at l = l.at + before l.byte (drop l.at l.text) ≡ before l.byte l.text
