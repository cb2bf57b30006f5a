use Rattle.script_host.proofs.restorable.RestorableRun.begin.Goals as goal

pub returns-clause-waits : goal.returns-clause-waits
returns-clause-waits c = λ script stands a. record { waits = c.in_ok-run.ensures.waits script stands a; began = c.in-Ok.ensures }
