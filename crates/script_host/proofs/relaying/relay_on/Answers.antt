use Rattle.std.proofs.Common.{◌≡◌, sym, ap, subst}
use Rattle.std.specs.Prelude.{pos}
use Rattle.dialogue.specs.Course.{Ends}
use Rattle.pv_values.specs.declared.run.HostAnswer.TheVariants as told
use Rattle.host_meaning.specs.Run.{RunState, Tells, code}
use Rattle.script_host.specs.Lending.{received_of}
use Rattle.script_host.specs.Rows.{relayed_over, with_blocks}
use Rattle.script_host.proofs.relaying.relay_on.Goals as goal

pub returns-clause-ok : goal.returns-clause-ok
returns-clause-ok c = λ blocks.
    subst (λ o. relayed_over (received_of o) (with_blocks c.args.facts.now blocks) ≡ Ends (Tells (told.Code (pos 1)) (with_blocks c.relayed.new.facts blocks)))
    (sym c.in-Some.is) (ap (λ (s : RunState). code (pos 1) s) (c.in_ok-relayed.ensures.ok blocks))
