use Rattle.std.proofs.Common.{◌≡◌}
use Rattle.cfg_lex.specs.Comments.{before_end}
use Rattle.cfg_lex.proofs.Seeks.{seek}
use Rattle.cfg_lex.proofs.comment.before_end.Given as goal

abbrev pub invariant-loop-at : goal.invariant-loop-at
invariant-loop-at l = seek before_end l.text l.at ≡ before_end l.text
