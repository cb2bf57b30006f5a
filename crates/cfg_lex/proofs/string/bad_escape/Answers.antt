use Rattle.std.proofs.Common.{arith}
use Rattle.cfg_lex.specs.Strings.{bad_escape}
use Rattle.cfg_lex.proofs.Seeks.{seek_first}
use Rattle.cfg_lex.proofs.string.bad_escape.Goals as goal

pub loop-at-init : goal.loop-at-init
loop-at-init c = (omega arith, seek_first bad_escape c.args.text.now)
