use Rattle.std.proofs.Common.{sym, arith}
use Rattle.std.proofs.lemmas.List.{take_all, length-take-le}
use Rattle.sip_msg.proofs.basis.first_bytes.Goals as goal

pub slice_bounds-result-end : goal.slice_bounds-result-end
slice_bounds-result-end c = sym (length-take-le 8192 c.args.b.now (omega arith))

pub returns-else-b-gt-LONGEST : goal.returns-else-b-gt-LONGEST
returns-else-b-gt-LONGEST c = sym (take_all 8192 c.args.b.now c.if-b-gt-LONGEST.false)
