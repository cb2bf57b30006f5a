use Rattle.std.proofs.Common.{◌∙◌, ap}
use Rattle.cfg_code.specs.Code.{argument_text, expansion_code}
use Rattle.cfg_compile.proofs.Texts.{arguments_more}
use Rattle.cfg_compile.proofs.part.arguments_text.Goals as goal

pub loop-argument-preserved : goal.loop-argument-preserved
loop-argument-preserved c =
    arguments_more c.args.arguments.now c.loop-argument.argument-index c.argument-item.result _ _ _ c.loop-argument-test.true c.argument-item.is c.loop-argument.invariant
    (c.in_ok-ended.ensures ∙ ap argument_text (c.in_ok-argument.ensures ∙ ap expansion_code c.as_slice.ensures)) c.in_ok-append.ensures
