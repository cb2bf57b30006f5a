use Rattle.std.proofs.Common.{length, sym, ap, ◌∙◌, subst}
use Rattle.cfg_tree.specs.Closed.{IsClosed}
use Rattle.cfg_compile.proofs.Lays.{ClosedAs, code_closed}
use Rattle.cfg_compile.proofs.block.compile.Goals as goal

pub invariant_of-result : goal.invariant_of-result
invariant_of-result c =
    let code = c.in_ok-code.code in
    code_closed c.into_script-blocks.result code (subst IsClosed (sym c.into_script-blocks.ensures.is) c.into_script-blocks.ensures.closed)
    (c.in_ok-code.ensures.count ∙ ap length c.as_slice.ensures) (subst (ClosedAs code.instrs) c.as_slice.ensures c.in_ok-code.ensures.closed)
