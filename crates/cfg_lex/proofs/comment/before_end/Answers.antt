use Rattle.cfg_lex.specs.Comments.{before_end}
use Rattle.cfg_lex.proofs.Seeks.{seek_first}
use Rattle.cfg_lex.proofs.comment.before_end.Goals as goal

pub loop-at-init : goal.loop-at-init
loop-at-init c = seek_first before_end c.args.text.now
