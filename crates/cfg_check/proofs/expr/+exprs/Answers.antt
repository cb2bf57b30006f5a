use Rattle.cfg_tree.specs.Checks.{expr_in}
use Rattle.cfg_calls.proofs.Follows.{follows_one, each_item}
use Rattle.cfg_check.proofs.Trees.{link_in, chain_follows, matches_follows}
use Rattle.cfg_check.proofs.expr.+exprs.Goals as goal

pub expr-returns-in_ok-links-in-Chain : goal.expr-returns-in_ok-links-in-Chain
expr-returns-in_ok-links-in-Chain t c =
    chain_follows c.args.known.now c.args.kind c.args.e.now c.in-Chain.a c.get-in-Chain.result.now c.in-Chain.links c.as_slice.result.now c.chain.result _ _ _ _ _
    c.in-Chain.is c.get-in-Chain.ensures c.as_slice.ensures c.in_ok-first-in-Chain.ensures c.in_ok-links-in-Chain.ensures c.chain.ensures

pub expr-returns-in_ok-pattern-in-Matches : goal.expr-returns-in_ok-pattern-in-Matches
expr-returns-in_ok-pattern-in-Matches t c =
    matches_follows c.args.known.now c.args.kind c.args.e.now c.in-Matches.a c.get-in-Matches.result.now c.in-Matches.word c.bytes.result.now c.matches.result _ _ _ _ _
    c.in-Matches.is c.get-in-Matches.ensures c.bytes.ensures c.in_ok-a-in-Matches.ensures c.in_ok-pattern-in-Matches.ensures c.matches.ensures

pub exprs-loop-operand-preserved : goal.exprs-loop-operand-preserved
exprs-loop-operand-preserved t c =
    each_item (expr_in c.args.known.now c.args.kind) c.args.operands.now c.loop-operand.operand-index c.operand-item.result _ _ _ _ _ _ c.loop-operand-test.true c.operand-item.is
    c.loop-operand.invariant c.in_ok-e.ensures c.in_ok-all.ensures

pub links-loop-item-preserved : goal.links-loop-item-preserved
links-loop-item-preserved t c =
    each_item (link_in c.args.known.now c.args.kind) c.args.links.now c.loop-item.item-index c.item-item.result _ _ _ _ _ _ c.loop-item-test.true c.item-item.is
    c.loop-item.invariant (follows_one (λ e. (c.item-item.result.0, e)) (expr_in c.args.known.now c.args.kind c.item-item.result.1) _ _ _ _ c.in_ok-e.ensures c.link.ensures) c.in_ok-all.ensures
