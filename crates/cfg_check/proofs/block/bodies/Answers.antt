use Rattle.cfg_check.proofs.Blocks.{no_block, one_body, no_body}
use Rattle.cfg_check.proofs.block.bodies.Goals.{in-Block+in_ok-body+in_ok-bodies, in_default}
use Rattle.cfg_check.proofs.block.bodies.Goals as goal

pub loop-item-preserved : goal.loop-item-preserved
loop-item-preserved c =
    let step = c.loop-item in
    let x = c.item-item in
    elim c.match-item.branch [
      | in-Block+in_ok-body+in_ok-bodies w ↦
          rw (w.checker-is, w.bodies-is) (one_body _ _ _ x.result w.in-Block.block w.as_slice.result.now _ _ w.stmts.new.checker step.bodies w.in_ok-bodies.bodies w.in_ok-body.body
          c.loop-item-test.true x.is w.in-Block.is w.as_slice.ensures step.invariant w.in_ok-body.ensures w.in_ok-bodies.ensures)
      | in_default w ↦
          rw (w.checker-is, w.bodies-is) (no_body _ _ _ x.result _ _ step.bodies c.loop-item-test.true x.is (no_block x.result w.in_default.not-Block) step.invariant)
    ]
