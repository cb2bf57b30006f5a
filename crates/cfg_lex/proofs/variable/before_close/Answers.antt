use Rattle.cfg_tree.specs.Variables.{before_close}
use Rattle.std.proofs.Common.{arith}
use Rattle.cfg_lex.proofs.Seeks.{seek_first}
use Rattle.cfg_lex.proofs.variable.before_close.Goals as goal

pub loop-at-init : goal.loop-at-init
loop-at-init c = (omega arith, seek_first (before_close 0) c.args.text.now)
