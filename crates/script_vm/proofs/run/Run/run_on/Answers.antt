use Rattle.std.proofs.Common.{◌≡◌, arith, sym, ◌∙◌}
use Rattle.cfg_code.specs.declared.machine.Event.TheVariants.{Moved, Asked, Over}
use Rattle.cfg_code.specs.Machine.{step_of}
use Rattle.script_vm.specs.Running.{with_patterns}
use Rattle.script_vm.proofs.Goes.{goes_on_by, asks_by, ends_by}
use Rattle.script_vm.proofs.Measure.{smaller_by}
use Rattle.script_vm.proofs.run.Run.run_on.Goals as goal

pub run-smaller : goal.run-smaller
run-smaller c = smaller_by c.run.matchers c.args.loaded.now c.run.self c.step.new.self Moved c.in-Ok.ensures.step tt c.step.ensures.depth

pub run-preserved : goal.run-preserved
run-preserved c = record {
  same = c.in-Ok.ensures.same ∙ c.run.invariant.same;
  talks = λ talk b. goes_on_by c.args.loaded.now c.run.matchers _ c.run.invariant.same c.run.self c.step.new.self talk c.in-Ok.ensures.step (c.run.invariant.talks talk b);
  less = let h = smaller_by c.run.matchers c.args.loaded.now c.run.self c.step.new.self Moved c.in-Ok.ensures.step tt c.step.ensures.depth in omega (arith, h, c.run.invariant.less);
}

pub returns-in-Err-Asked-clause-next : goal.returns-in-Err-Asked-clause-next
returns-in-Err-Asked-clause-next c = λ talk b.
    let is : step_of (with_patterns c.run.matchers c.args.loaded.now) c.run.self ≡ record { event = Asked; run = c.step.new.self } = rw c.in-Err-Asked.field-0-is at c.in-Err-Asked.ensures.step in
    asks_by c.args.loaded.now c.run.matchers _ c.run.invariant.same c.run.self c.step.new.self talk is (c.run.invariant.talks talk b)

pub returns-in-Err-Asked-clause-less : goal.returns-in-Err-Asked-clause-less
returns-in-Err-Asked-clause-less c =
    let is : step_of (with_patterns c.run.matchers c.args.loaded.now) c.run.self ≡ record { event = Asked; run = c.step.new.self } = rw c.in-Err-Asked.field-0-is at c.in-Err-Asked.ensures.step in
    let h = smaller_by c.run.matchers c.args.loaded.now c.run.self c.step.new.self Asked is tt c.step.ensures.depth in
    omega (arith, h, c.run.invariant.less)

pub returns-in-Err-Over-clause-next : goal.returns-in-Err-Over-clause-next
returns-in-Err-Over-clause-next c = λ talk b.
    let is : step_of (with_patterns c.run.matchers c.args.loaded.now) c.run.self ≡ record { event = Over; run = c.step.new.self } = rw c.in-Err-Over.field-0-is at c.in-Err-Over.ensures.step in
    ends_by c.args.loaded.now c.run.matchers _ c.run.invariant.same c.run.self c.step.new.self talk is (c.run.invariant.talks talk b)
