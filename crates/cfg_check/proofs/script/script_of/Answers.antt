use Rattle.cfg_check.proofs.Makings.{script_made, no_blocks_read, no_request_read}
use Rattle.cfg_check.proofs.script.script_of.Goals.{in_default-via-in-Some+in_default, in_default-via-in_default}
use Rattle.cfg_check.proofs.script.script_of.Goals as goal

pub returns-in-Some-Some : goal.returns-in-Some-Some
returns-in-Some-Some c raw h built =
    script_made raw c.args.read _ _ _ _ _ h c.in-Some-Some.is-0 c.in-Some-Some.is-1 c.in_ok-parameters.ensures.parameters c.in_ok-parameters.ensures.tables built

pub returns : goal.returns
returns c raw h built =
    elim c.in_default.branch [
      | in_default-via-in-Some+in_default w ↦ no_request_read raw c.args.read h w.in_default.is-1
      | in_default-via-in_default w ↦ no_blocks_read raw c.args.read h w.in_default.is-0
    ]
