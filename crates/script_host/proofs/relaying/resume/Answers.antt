use Rattle.std.proofs.Common.{refl}
use Rattle.script_host.specs.declared.row.Wait.TheVariants as wait
use Rattle.script_host.proofs.Misfits.{same_row}
use Rattle.script_host.proofs.relaying.resume.Goals as goal

pub returns-in-Row-clause-start : goal.returns-in-Row-clause-start
returns-in-Row-clause-start c = λ e. (c.hear_row.ensures.start c.args.state.now (same_row c.args.wait c.in-Row.wait wait.Start c.in-Row.is e), refl)
