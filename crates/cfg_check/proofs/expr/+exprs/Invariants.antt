use Rattle.std.proofs.Common.{map, take}
use Rattle.cfg_tree.specs.Checks.{expr_in}
use Rattle.cfg_tree.specs.Refusals.{each, one}
use Rattle.cfg_calls.specs.Following.{Follows}
use Rattle.cfg_check.proofs.expr.+exprs.Given as goal

abbrev pub invariant-exprs-loop-operand : goal.invariant-exprs-loop-operand
invariant-exprs-loop-operand l = Follows (each (map (expr_in l.known l.kind) (take l.operand-index l.operands))) l.initial.checker l.all l.checker

abbrev pub invariant-links-loop-item : goal.invariant-links-loop-item
invariant-links-loop-item l = Follows (each (map (λ x. one (λ e. (x.0, e)) (expr_in l.known l.kind x.1)) (take l.item-index l.links))) l.initial.checker l.all l.checker
