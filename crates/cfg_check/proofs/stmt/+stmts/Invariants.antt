use Rattle.std.proofs.Common.{ℕ, ◌+◌, ◌*◌, map, take}
use Rattle.cfg_tree.specs.Checks.{stmt_in, all_in}
use Rattle.cfg_check.specs.Cases.{cases_in}
use Rattle.cfg_calls.specs.Following.{Follows}
use Rattle.cfg_check.proofs.stmt.+stmts.Given as goal

abbrev pub invariant-stmts-loop-s : goal.invariant-stmts-loop-s
invariant-stmts-loop-s l = Follows (all_in (map (stmt_in l.known l.kind) (take l.s-index l.stmts))) l.initial.checker l.all l.checker

abbrev pub invariant-cases-loop-item : goal.invariant-cases-loop-item
invariant-cases-loop-item l = Follows (cases_in l.known l.kind (take l.item-index l.cases)) l.initial.checker l.all l.checker

abbrev pub decreases-stmt : goal.decreases-stmt
decreases-stmt l = 8 * goal.size-stmt l

abbrev pub decreases-stmts : goal.decreases-stmts
decreases-stmts l = 8 * goal.size-stmts l + 1

abbrev pub decreases-otherwise : goal.decreases-otherwise
decreases-otherwise l = 8 * goal.size-otherwise l + 1

abbrev pub decreases-with_stmt : goal.decreases-with_stmt
decreases-with_stmt l = 8 * goal.size-with_stmt l + 1

abbrev pub decreases-grouped : goal.decreases-grouped
decreases-grouped l = 8 * goal.size-grouped l + 2

abbrev pub decreases-case : goal.decreases-case
decreases-case l = 8 * goal.size-case l + 2

abbrev pub decreases-cases : goal.decreases-cases
decreases-cases l = 8 * goal.size-cases l + 3

abbrev pub decreases-with_cases : goal.decreases-with_cases
decreases-with_cases l = 8 * goal.size-with_cases l + 4
