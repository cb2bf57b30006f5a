use Rattle.std.proofs.Common.{◌∙◌, ap}
use Rattle.cfg_code.specs.Code.{text_of_block}
use Rattle.cfg_compile.proofs.Lays.{laid_none, laid_sound, laid_on, closed_all}
use Rattle.cfg_compile.proofs.block.blocks_code.Goals as goal

pub loop-block-init : goal.loop-block-init
loop-block-init c = rw (c.in_ok-instrs.ensures, c.new-entries.ensures) laid_none

pub new-requires : goal.new-requires
new-requires c = laid_sound c.loop-block.instrs c.loop-block.entries _ c.loop-block.invariant

pub loop-block-preserved : goal.loop-block-preserved
loop-block-preserved c =
    laid_on c.the_code_of_a_block_is_sound.ensures c.the_code_of_a_closed_block_is_closed.ensures c.loop-block.instrs _ _ c.loop-block.entries _ _ c.args.blocks.now c.loop-block.block-index c.block-item.result c.loop-block-test.true c.block-item.is
    c.len.ensures c.in_ok-push.ensures.ok (c.in_ok-block_text.ensures ∙ ap text_of_block c.as_slice.ensures) c.in_ok-append.ensures c.loop-block.invariant

pub returns-clause-closed : goal.returns-clause-closed
returns-clause-closed c = closed_all c.loop-block.instrs c.loop-block.entries c.args.blocks.now c.loop-block.block-index c.new.result c.loop-block-test.false c.new.ensures c.loop-block.invariant
