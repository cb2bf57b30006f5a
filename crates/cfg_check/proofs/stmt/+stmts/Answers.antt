use Rattle.std.proofs.Common.{◌∙◌, ap}
use Rattle.cfg_calls.specs.Following.{within_limit}
use Rattle.cfg_check.specs.Cases.{case_in}
use Rattle.cfg_tree.specs.Checks.{stmt_in, all_in}
use Rattle.cfg_calls.proofs.Expansions.{answered}
use Rattle.cfg_calls.proofs.Follows.{each_item, all_item}
use Rattle.cfg_check.proofs.Statements.{if_stmt, while_stmt, switch_stmt, case_answers, fits_set, fits_do, fits_return, fits_exit, fits_drop, fits_break, fits_group, fits_empty}
use Rattle.cfg_check.proofs.stmt.+stmts.Goals as goal

pub with_stmt-returns : goal.with_stmt-returns
with_stmt-returns t c = record {
  within = c.in_ok-within.within;
  value = c.in_ok-value.value;
  second = c.in_ok-stmts.stmts;
  counted = c.count.new.self;
  tested = c.expr.new.checker;
  counts = c.in_ok-within.ensures;
  tests = c.in_ok-value.ensures;
  follows = c.in_ok-stmts.ensures;
  read_is = c.where_within.ensures ∙ ap (within_limit c.in_ok-within.within) c.pair.ensures;
}

pub with_cases-returns : goal.with_cases-returns
with_cases-returns t c = record {
  within = c.in_ok-within.within;
  value = c.in_ok-value.value;
  second = c.in_ok-cases.cases;
  counted = c.count.new.self;
  tested = c.expr.new.checker;
  counts = c.in_ok-within.ensures;
  tests = c.in_ok-value.ensures;
  follows = c.in_ok-cases.ensures;
  read_is = c.where_within.ensures ∙ ap (within_limit c.in_ok-within.within) c.pair.ensures;
}

pub stmt-returns-in_ok-other-in-If : goal.stmt-returns-in_ok-other-in-If
stmt-returns-in_ok-other-in-If t c =
    if_stmt c.args.known.now c.args.kind c.args.s.now c.in-If.at c.in-If.e c.in-If.first c.get.result.now c.in-If.other c.args.checker.now c.with_stmt.new.checker c.otherwise.new.checker
    c.in_ok-begun-in-If.begun c.in_ok-other-in-If.other c.choice.result c.single.result c.in-If.is c.get.ensures c.in_ok-begun-in-If.ensures c.in_ok-other-in-If.ensures c.choice.ensures c.single.ensures

pub stmt-returns-in_ok-begun-in-While : goal.stmt-returns-in_ok-begun-in-While
stmt-returns-in_ok-begun-in-While t c =
    while_stmt c.args.known.now c.args.kind c.args.s.now c.in-While.at c.in-While.e c.in-While.body c.get-in-While.result.now c.args.checker.now c.with_stmt-in-While.new.checker
    c.in_ok-begun-in-While.begun c.repetition.result c.single-in-While.result c.in-While.is c.get-in-While.ensures c.in_ok-begun-in-While.ensures c.repetition.ensures c.single-in-While.ensures

pub stmt-returns-in_ok-default-in-Switch : goal.stmt-returns-in_ok-default-in-Switch
stmt-returns-in_ok-default-in-Switch t c =
    switch_stmt c.args.known.now c.args.kind c.args.s.now c.in-Switch.at c.in-Switch.e c.in-Switch.cases c.as_slice.result.now c.in-Switch.default c.as_slice-in-Switch.result.now c.args.checker.now
    c.with_cases.new.checker c.stmts.new.checker c.in_ok-begun-in-Switch.begun c.in_ok-default-in-Switch.default c.selection.result c.single-in-Switch.result c.in-Switch.is c.as_slice.ensures c.as_slice-in-Switch.ensures
    c.in_ok-begun-in-Switch.ensures c.in_ok-default-in-Switch.ensures c.selection.ensures c.single-in-Switch.ensures

pub stmt-returns-in-Set : goal.stmt-returns-in-Set
stmt-returns-in-Set t c = answered c.assigned.result _ _ _ _ (fits_set c.args.known.now c.args.kind c.args.s.now c.in-Set.at c.in-Set.v c.in-Set.e c.in-Set.is) c.assigned.ensures

pub stmt-returns-in-Do : goal.stmt-returns-in-Do
stmt-returns-in-Do t c = answered c.called.result _ _ _ _ (fits_do c.args.known.now c.args.kind c.args.s.now c.in-Do.at c.in-Do.call c.in-Do.is) c.called.ensures

pub stmt-returns-in-Return : goal.stmt-returns-in-Return
stmt-returns-in-Return t c = answered c.returned.result _ _ _ _ (fits_return c.args.known.now c.args.kind c.args.s.now c.in-Return.at c.in-Return.e c.in-Return.is) c.returned.ensures

pub stmt-returns-in-Exit : goal.stmt-returns-in-Exit
stmt-returns-in-Exit t c = answered c.exit.result _ _ _ _ (fits_exit c.args.known.now c.args.kind c.args.s.now c.in-Exit.at c.in-Exit.is) c.exit.ensures

pub stmt-returns-in-Drop : goal.stmt-returns-in-Drop
stmt-returns-in-Drop t c = answered c.dropped.result _ _ _ _ (fits_drop c.args.known.now c.args.kind c.args.s.now c.in-Drop.at c.in-Drop.is) c.dropped.ensures

pub stmt-returns-in-Break : goal.stmt-returns-in-Break
stmt-returns-in-Break t c = answered c.broken.result _ _ _ _ (fits_break c.args.known.now c.args.kind c.args.s.now c.in-Break.at c.in-Break.is) c.broken.ensures

pub stmt-returns-in-Group : goal.stmt-returns-in-Group
stmt-returns-in-Group t c = answered c.grouped.result _ _ _ _ (fits_group c.args.known.now c.args.kind c.args.s.now c.in-Group.at c.in-Group.stmts _ c.in-Group.is c.as_slice-in-Group.ensures) c.grouped.ensures

pub stmt-returns-in-Empty : goal.stmt-returns-in-Empty
stmt-returns-in-Empty t c = answered c.empty.result _ _ _ _ (fits_empty c.args.known.now c.args.kind c.args.s.now c.in-Empty.at c.in-Empty.is) c.empty.ensures

pub stmts-loop-s-preserved : goal.stmts-loop-s-preserved
stmts-loop-s-preserved t c =
    all_item (stmt_in c.args.known.now c.args.kind) c.args.stmts.now c.loop-s.s-index c.s-item.result _ _ _ _ _ _ c.loop-s-test.true c.s-item.is c.loop-s.invariant c.in_ok-more.ensures c.in_ok-all.ensures

pub cases-loop-item-preserved : goal.cases-loop-item-preserved
cases-loop-item-preserved t c =
    each_item (case_in c.args.known.now c.args.kind) c.args.cases.now c.loop-item.item-index c.item-item.result _ _ _ _ _ _ c.loop-item-test.true c.item-item.is c.loop-item.invariant
    c.in_ok-one.ensures c.in_ok-all.ensures

pub case-returns : goal.case-returns
case-returns t c = case_answers c.args.known.now c.args.kind c.args.item.now c.as_slice.result.now _ _ _ c.labelled.result c.as_slice.ensures c.in_ok-body.ensures c.labelled.ensures
