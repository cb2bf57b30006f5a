use Rattle.message_functions.proofs.Fitting.{cut_made}
use Rattle.message_functions.proofs.edits.cut.Goals as goal

pub returns-in-Ok : goal.returns-in-Ok
returns-in-Ok c = cut_made c.args.edits.now _ c.args.at c.in-Ok.ensures.can c.in-Ok.ensures.made
