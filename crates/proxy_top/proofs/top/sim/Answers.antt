-- The run is that of the script over what the scenario says; a script that isn't there ends the command as it says.
use Rattle.std.proofs.Common.{rules, ℕ, List, refl, subst}
use Rattle.std.specs.Prelude.{IfOk, IfErr}
use Rattle.sim_text.specs.Scenario.{contents_of}
use Rattle.proxy_top.specs.Commands.{sim_words}
use Rattle.proxy_top.specs.Endings.{NamesScript, ReadsScript, IsEnding}
use Rattle.proxy_top.proofs.Files.{sim_names}
use Rattle.proxy_top.proofs.top.sim.Goals as goal

pub returns-in-Err-clause-ended : goal.returns-in-Err-clause-ended
returns-in-Err-clause-ended g c =
    subst (λ r. IfErr r (λ e. (words : List (List ℕ)) → NamesScript words c.args.file.now
    → IsEnding words (g.F.Files.folder c.args.files.now) (g.F.Files.faults c.args.files.now) (g.F.Files.faults c.read_script.new.files) e))
    c.in-Err.is c.in_ok-script.ensures.ended (sim_words c.args.file.now c.args.scenario.now) (sim_names c.args.file.now c.args.scenario.now)

pub returns-in-Ok-read_scenario-clause-ended : goal.returns-in-Ok-read_scenario-clause-ended
returns-in-Ok-read_scenario-clause-ended g c = record {
  file = c.args.file.now;
  scenario = c.args.scenario.now;
  words_are = refl;
  script = c.in-Ok.script;
  accepted = subst (λ r. IfOk r (ReadsScript (g.F.Files.folder c.args.files.now) c.args.file.now)) c.in-Ok.is c.in_ok-script.ensures.accepted;
  text = c.in-Ok-read.lines.items;
  held = search rules;
  said = contents_of c.in-Ok-read_scenario.scenario;
  reads = search rules;
  trace_is = search rules;
}
