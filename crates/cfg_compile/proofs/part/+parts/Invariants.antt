use Rattle.std.proofs.Common.{◌≡◌, take}
use Rattle.cfg_code.specs.Code.{concats_code}
use Rattle.cfg_compile.proofs.part.+parts.Given as goal

abbrev pub invariant-concats_text-loop-part : goal.invariant-concats_text-loop-part
invariant-concats_text-loop-part l = l.text ≡ concats_code (take l.part-index l.parts)
