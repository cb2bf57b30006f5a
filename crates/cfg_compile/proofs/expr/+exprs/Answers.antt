use Rattle.std.proofs.Common.{◌≤◌, ◌∙◌, ap, subst, take, length}
use Rattle.cfg_tree.specs.Meaning.{AsValue}
use Rattle.cfg_code.specs.Code.{expr_code, link_text, links_code, and_text, or_text}
use Rattle.cfg_compile.specs.Wanted.{as_meant}
use Rattle.cfg_compile.proofs.Texts.{links_more, chain_whole, ands_more, ors_more}
use Rattle.cfg_compile.proofs.expr.+exprs.Goals as goal

pub ands_text-loop-operand-preserved : goal.ands_text-loop-operand-preserved
ands_text-loop-operand-preserved t c =
    ands_more c.args.operands.now c.loop-operand.operand-index c.operand-item.result _ _ _ c.loop-operand-test.true c.operand-item.is c.loop-operand.invariant
    (c.in_ok-and_operand.ensures ∙ ap and_text c.in_ok-operand.ensures) c.in_ok-append.ensures

pub ors_text-loop-operand-preserved : goal.ors_text-loop-operand-preserved
ors_text-loop-operand-preserved t c =
    ors_more c.args.operands.now c.loop-operand.operand-index c.operand-item.result _ _ _ c.loop-operand-test.true c.operand-item.is c.loop-operand.invariant
    (c.in_ok-or_operand.ensures ∙ ap or_text c.in_ok-operand.ensures) c.in_ok-append.ensures

pub expr_text-loop-link-preserved : goal.expr_text-loop-link-preserved
expr_text-loop-link-preserved t c =
    links_more c.as_slice-link-items.result.now c.loop-link.link-index c.link-item.result _ _ _ c.loop-link-test.true c.link-item.is c.loop-link.invariant
    (ap (link_text c.link-item.result.0) c.in_ok-operand-in-Chain.ensures) c.in_ok-tail-in-Chain.ensures

pub expr_text-returns-after-loop-link : goal.expr_text-returns-after-loop-link
expr_text-returns-after-loop-link t c =
    chain_whole c.args.e.now c.in-Chain.a c.in-Chain.links (as_meant c.args.wanted) c.both.result _ _ c.loop-link.link-index c.in-Chain.is c.both.ensures
    (c.in_ok-first-in-Chain.ensures ∙ ap (λ e. expr_code e AsValue) c.get-in-Chain.ensures)
    (subst (λ x. length x ≤ c.loop-link.link-index) c.as_slice-link-items.ensures c.loop-link-test.false)
    (c.loop-link.invariant ∙ ap (λ x. links_code (take c.loop-link.link-index x)) c.as_slice-link-items.ensures)
