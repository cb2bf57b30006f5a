use Rattle.std.proofs.Common.{◌≤◌, ◌∙◌, ap, subst, take, length}
use Rattle.cfg_code.specs.Code.{list_code, case_text, cases_code}
use Rattle.cfg_compile.proofs.Texts.{list_more, cases_more, switch_whole}
use Rattle.cfg_compile.proofs.stmt.+stmts.Goals as goal

pub list_text-loop-s-preserved : goal.list_text-loop-s-preserved
list_text-loop-s-preserved t c =
    list_more c.args.block.now c.loop-s.s-index c.s-item.result _ _ _ c.loop-s-test.true c.s-item.is c.loop-s.invariant c.in_ok-stmt_text.ensures c.in_ok-append.ensures

pub stmt_text-loop-case-preserved : goal.stmt_text-loop-case-preserved
stmt_text-loop-case-preserved t c =
    cases_more c.as_slice-case-items.result.now c.loop-case.case-index c.case-item.result _ _ _ c.loop-case-test.true c.case-item.is c.loop-case.invariant
    (c.in_ok-one_case-in-Switch.ensures ∙ ap (case_text c.case-item.result.0) (c.in_ok-body-in-Switch.ensures ∙ ap list_code c.as_slice-in-loop-case.ensures)) c.in_ok-append-in-Switch.ensures

pub stmt_text-returns-in_ok-default-in-Switch : goal.stmt_text-returns-in_ok-default-in-Switch
stmt_text-returns-in_ok-default-in-Switch t c =
    switch_whole c.args.s.now c.in-Switch.e c.in-Switch.cases c.in-Switch.default c.chosen.result _ _ _ c.loop-case.case-index c.in-Switch.is c.chosen.ensures c.in_ok-value-in-Switch.ensures
    (subst (λ x. length x ≤ c.loop-case.case-index) c.as_slice-case-items.ensures c.loop-case-test.false)
    (c.loop-case.invariant ∙ ap (λ x. cases_code (take c.loop-case.case-index x)) c.as_slice-case-items.ensures) (c.in_ok-default-in-Switch.ensures ∙ ap list_code c.as_slice-in-Switch.ensures)
