use Rattle.std.proofs.Common.{◌∙◌, ap}
use Rattle.cfg_code.specs.Code.{concat_text}
use Rattle.cfg_compile.proofs.Texts.{concats_more}
use Rattle.cfg_compile.proofs.part.+parts.Goals as goal

pub concats_text-loop-part-preserved : goal.concats_text-loop-part-preserved
concats_text-loop-part-preserved t c =
    concats_more c.args.parts.now c.loop-part.part-index c.part-item.result _ _ _ c.loop-part-test.true c.part-item.is c.loop-part.invariant
    (c.in_ok-ended.ensures ∙ ap concat_text c.in_ok-part.ensures) c.in_ok-append.ensures
