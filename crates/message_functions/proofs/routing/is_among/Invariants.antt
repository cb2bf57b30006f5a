use Rattle.std.proofs.Common.{◌≡◌, drop}
use Rattle.host_meaning.specs.Routing.{is_among}
use Rattle.message_functions.proofs.routing.is_among.Given as goal

abbrev pub invariant-loop-place : goal.invariant-loop-place
invariant-loop-place l = is_among (drop l.place-index l.cut) l.value ≡ is_among l.cut l.value
