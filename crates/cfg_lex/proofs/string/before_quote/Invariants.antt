use Rattle.std.proofs.Common.{◌≡◌, ◌-◌, length}
use Rattle.cfg_lex.specs.Strings.{before_quote}
use Rattle.cfg_lex.proofs.Seeks.{seek}
use Rattle.cfg_lex.proofs.string.before_quote.Given as goal

abbrev pub invariant-loop-at : goal.invariant-loop-at
invariant-loop-at l = seek (before_quote l.quote) l.text l.at ≡ before_quote l.quote l.text

abbrev pub decreases-loop-at : goal.decreases-loop-at
decreases-loop-at l = length l.text - l.at
