use Rattle.std.proofs.Common.{◌∙◌}
use Rattle.script_vm.proofs.Leaves.{leave_past}
use Rattle.script_vm.proofs.run.Run.leave.Goals as goal

pub loop-frame-preserved : goal.loop-frame-preserved
loop-frame-preserved c = c.loop-frame.invariant ∙ leave_past _ _ _ _ _ _ _ _ c.in-Some.ensures c.in_default-frame.is
