use Rattle.std.proofs.Common.{take}
use Rattle.cfg_compile.proofs.Lays.{Laid}
use Rattle.cfg_compile.proofs.block.blocks_code.Given as goal

abbrev pub invariant-loop-block : goal.invariant-loop-block
invariant-loop-block l = Laid l.instrs l.entries (take l.block-index l.blocks)
