use Rattle.std.proofs.Common.{◌<◌, ◌∙◌, ap, subst}
use Rattle.script_vm.specs.Running.{OnWent}
use Rattle.script_vm.specs.Measure.{work_left}
use Rattle.script_vm.proofs.Goes.{advances}
use Rattle.script_vm.proofs.Measure.{told_leaves}
use Rattle.script_vm.proofs.run.Run.advance.Goals as goal

pub returns-in-Ok : goal.returns-in-Ok
returns-in-Ok c =
    let loaded = c.args.loaded.now in
    let same = ap (work_left loaded) c.in-Ok.ensures ∙ told_leaves loaded c.args.answer c.args.self.now.wait c.args.self.now in
    record {
      next = λ patterns next waits.
          advances loaded c.args.matchers.now c.args.self.now c.tell.new.self c.run_on.new.self c.args.answer c.run_on.result c.in-Ok.ensures c.run_on.ensures.next patterns next waits;
      less = subst (λ n. OnWent c.run_on.result (work_left loaded c.run_on.new.self < n)) same c.run_on.ensures.less;
      again = λ how is. absurd (c.in_default.not-Over how (ap (λ r. r.wait) c.self.view_is ∙ is));
      same = c.run_on.ensures.same;
    }
