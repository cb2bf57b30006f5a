use Rattle.std.proofs.Common.{◌≡◌, length}
use Rattle.cfg_code.specs.Machine.{leave}
use Rattle.script_vm.proofs.run.Run.leave.Given as goal

abbrev pub invariant-loop-frame : goal.invariant-loop-frame
invariant-loop-frame l = leave l.fn.self.frames l.code l.how l.fn.self ≡ leave l.self.frames l.code l.how l.self

abbrev pub decreases-loop-frame : goal.decreases-loop-frame
decreases-loop-frame l = length l.self.frames
