use Rattle.std.proofs.Common.{◌≡◌, ◌≤◌}
use Rattle.cfg_tree.specs.Meaning.{RunTalk}
use Rattle.cfg_code.specs.Follows.{Behaves}
use Rattle.script_vm.specs.Running.{with_patterns}
use Rattle.script_vm.specs.Measure.{work_left}
use Rattle.script_vm.proofs.run.Run.run_on.Given as goal

abbrev pub invariant-run : goal.invariant-run
invariant-run l = record {
  same : l.matchers ≡ l.fn.matchers;
  talks : (talk : RunTalk) → Behaves (with_patterns l.fn.matchers l.loaded) l.fn.self talk → Behaves (with_patterns l.fn.matchers l.loaded) l.self talk;
  less : work_left l.loaded l.self ≤ work_left l.loaded l.fn.self;
}

abbrev pub decreases-run : goal.decreases-run
decreases-run l = work_left l.loaded l.self
