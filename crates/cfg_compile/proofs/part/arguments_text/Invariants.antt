use Rattle.std.proofs.Common.{◌≡◌, take}
use Rattle.cfg_code.specs.Code.{arguments_code}
use Rattle.cfg_compile.proofs.part.arguments_text.Given as goal

abbrev pub invariant-loop-argument : goal.invariant-loop-argument
invariant-loop-argument l = l.text ≡ arguments_code (take l.argument-index l.arguments)
