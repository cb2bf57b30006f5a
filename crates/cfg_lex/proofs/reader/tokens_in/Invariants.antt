use Rattle.std.proofs.Common.{◌-◌, length}
use Rattle.cfg_lex.proofs.Reading.{Seen}
use Rattle.cfg_lex.proofs.reader.tokens_in.Given as goal

abbrev pub invariant-loop-at : goal.invariant-loop-at
invariant-loop-at l = Seen l.text l.at l.context l.tokens.items

abbrev pub decreases-loop-at : goal.decreases-loop-at
decreases-loop-at l = length l.text - l.at
