-- Where there is no script, `check` ends as it says.
use Rattle.std.proofs.Common.{rules, ℕ, List, subst}
use Rattle.std.specs.Prelude.{IfErr}
use Rattle.proxy_top.specs.Commands.{words_of}
use Rattle.proxy_top.specs.Endings.{NamesScript, IsEnding}
use Rattle.proxy_top.proofs.Files.{check_names}
use Rattle.proxy_top.proofs.top.run_command.Goals as goal

pub returns-in-Some-Check-clause-ended : goal.returns-in-Some-Check-clause-ended
returns-in-Some-Check-clause-ended g c =
    subst (λ r. IfErr r (λ e. (words : List (List ℕ)) → NamesScript words c.in-Some-Check.script.now
    → IsEnding words (g.F.Files.folder c.args.files.now) (g.F.Files.faults c.args.files.now) (g.F.Files.faults c.read_script.new.files) e))
    c.in-Err.is c.in_ok-read_script-in-Some-Check.ensures.ended (words_of c.args.words.now)
    (check_names (words_of c.args.words.now) c.in-Some-Check.script.now (search rules))
