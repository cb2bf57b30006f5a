use Rattle.std.proofs.Common.{◌≡◌, ◌≤◌, length, drop}
use Rattle.cfg_tree.specs.declared.script.Script.{Script}
use Rattle.cfg_tree.specs.Meaning.{meaning}
use Rattle.cfg_code.specs.Follows.{Stands}
use Rattle.script_vm.specs.Measure.{work_left}
use Rattle.script_vm.proofs.Plays.{IsOn}
use Rattle.script_vm.proofs.playing.play.Given as goal

abbrev pub invariant-answers : goal.invariant-answers
invariant-answers l = record {
  patterns : l.matchers ≡ l.loaded.patterns;
  within : l.taken ≤ length l.answers;
  on : (script : Script) → Stands l.loaded script → IsOn l.loaded l.run l.answer (drop l.taken l.answers) (meaning script l.block l.fn.env l.answers);
}

abbrev pub decreases-answers : goal.decreases-answers
decreases-answers l = work_left l.loaded l.run
