use Rattle.cfg_lex.specs.Strings.{before_quote}
use Rattle.cfg_lex.proofs.Seeks.{seek_first}
use Rattle.cfg_lex.proofs.string.before_quote.Goals as goal

pub loop-at-init : goal.loop-at-init
loop-at-init c = seek_first (before_quote c.args.quote) c.args.text.now
