use Rattle.std.proofs.Common.{◌≡◌, take}
use Rattle.cfg_code.specs.Code.{links_code, ands_code, ors_code}
use Rattle.cfg_compile.proofs.expr.+exprs.Given as goal

abbrev pub invariant-expr_text-loop-link : goal.invariant-expr_text-loop-link
invariant-expr_text-loop-link l = l.tail ≡ links_code (take l.link-index l.link-items)

abbrev pub invariant-ands_text-loop-operand : goal.invariant-ands_text-loop-operand
invariant-ands_text-loop-operand l = l.text ≡ ands_code (take l.operand-index l.operands)

abbrev pub invariant-ors_text-loop-operand : goal.invariant-ors_text-loop-operand
invariant-ors_text-loop-operand l = l.text ≡ ors_code (take l.operand-index l.operands)
