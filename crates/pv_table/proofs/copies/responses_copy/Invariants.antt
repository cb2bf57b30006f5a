use Rattle.std.proofs.Common.{◌≡◌, take}
use Rattle.pv_table.proofs.copies.responses_copy.Given as goal

abbrev pub invariant-loop-response : goal.invariant-loop-response
invariant-loop-response l = l.copy ≡ take l.response-index l.responses
