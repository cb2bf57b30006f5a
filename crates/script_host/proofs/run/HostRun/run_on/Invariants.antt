use Rattle.std.proofs.Common.{◌≡◌, ◌≤◌}
use Rattle.pv_values.specs.declared.run.How.{How}
use Rattle.script_vm.specs.Measure.{work_left}
use Rattle.host_meaning.specs.Host.{HostCourse}
use Rattle.script_host.specs.Lending.{around_of, state_of}
use Rattle.script_host.specs.Running.{IsAt, HasEnded}
use Rattle.script_host.proofs.run.HostRun.run_on.Given as goal

abbrev pub invariant-asks : goal.invariant-asks
invariant-asks l = record {
  is : l.fn.shop ≡ l.lent.loaded.now.patterns → (whole : HostCourse) → IsAt l.lent.loaded.now (around_of l.lent) l.fn.self.run l.fn.first (state_of l.fn.self.state) whole →
      IsAt l.lent.loaded.now (around_of l.lent) l.self.run l.told (state_of l.self.state) whole;
  less : work_left l.lent.loaded.now l.self.run ≤ work_left l.lent.loaded.now l.fn.self.run;
  again : (how : How) → HasEnded l.fn.self how → l.self ≡ l.fn.self;
  same : l.shop-inside.matchers ≡ l.fn.shop;
}

abbrev pub decreases-asks : goal.decreases-asks
decreases-asks l = work_left l.lent.loaded.now l.self.run
