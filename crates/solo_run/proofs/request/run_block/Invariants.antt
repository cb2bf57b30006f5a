-- Behind what was shown so far comes what is left of the run; the workshop stays as it was.
use Rattle.std.proofs.Common.{◌≡◌}
use Rattle.cfg_tree.specs.declared.script.Script.{Script}
use Rattle.cfg_code.specs.Follows.{Stands}
use Rattle.script_host.specs.Running.{asks_left}
use Rattle.script_host.specs.Asking.{as_heard}
use Rattle.script_host.specs.Lending.{state_of}
use Rattle.solo_run.proofs.OnItsWay.{IsOn}
use Rattle.solo_run.proofs.request.run_block.Given as goal

abbrev pub invariant-loop-objects : goal.invariant-loop-objects
invariant-loop-objects l =
    ((script : Script) → Stands l.lent.loaded.now script → IsOn l.lent l.at script (state_of l.fn.data) l.fn.objects l.run (as_heard l.answer) l.objects)
    × (l.shop ≡ l.fn.shop)

abbrev pub decreases-loop-objects : goal.decreases-loop-objects
decreases-loop-objects l = asks_left l.lent.loaded.now l.run
