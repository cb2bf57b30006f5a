use Rattle.std.proofs.Common.{◌≡◌, ap}
use Rattle.std.specs.Prelude.{Ok}
use Rattle.std.specs.declared.alloc.AllocError.{AllocError}
use Rattle.pv_values.specs.declared.run.HostAnswer.{HostAnswer}
use Rattle.std.specs.Prelude.{Result}
use Rattle.script_host.specs.declared.row.Going.{Going}
use Rattle.script_host.specs.declared.row.Going.TheVariants as going
use Rattle.script_host.specs.Asking.{as_heard}
use Rattle.script_host.specs.Lending.{state_of}
use Rattle.script_host.proofs.Misfits.{never_lacks, tells_start}
use Rattle.script_host.proofs.relaying.hear_row.Goals as goal

abbrev told_so : HostAnswer → Result Going AllocError
told_so t = Ok (going.Tells t)

pub returns-in-Ok-clause-start : goal.returns-in-Ok-clause-start
returns-in-Ok-clause-start c = λ d e. ap told_so (tells_start c.args.wait c.in-Ok.told (state_of d) (as_heard c.args.answer) e (c.in-Ok.ensures.tells (state_of d)))

pub returns-in-Err-clause-start : goal.returns-in-Err-clause-start
returns-in-Err-clause-start c = λ d e. absurd (never_lacks c.args.wait (state_of d) (as_heard c.args.answer) e (c.in-Err.ensures.lacks (state_of d)))
