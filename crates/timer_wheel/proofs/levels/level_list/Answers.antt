use Rattle.std.proofs.Common.{arith}
use Rattle.timer_wheel.proofs.Moments.{starts_at, goes_up, found_place}
use Rattle.timer_wheel.proofs.levels.level_list.Goals as goal

pub loop-due-init : goal.loop-due-init
loop-due-init c = starts_at c.args.last c.args.due c.ranges.last.fits c.ranges.due.fits (omega arith)

pub loop-due-preserved : goal.loop-due-preserved
loop-due-preserved c = goes_up c.args.last c.args.due c.loop-due.last c.loop-due.due c.loop-due.level c.loop-due.invariant c.loop-due-test.true

pub returns-clause-list : goal.returns-clause-list
returns-clause-list c = found_place c.args.last c.args.due c.loop-due.last c.loop-due.due c.loop-due.level c.loop-due.invariant c.loop-due-test.false
