use Rattle.std.proofs.Common.{◌≡◌, drop}
use Rattle.std.specs.List.{list_all}
use Rattle.host_meaning.specs.Routing.{is_among}
use Rattle.message_functions.proofs.routing.are_among.Given as goal

abbrev pub invariant-loop-value : goal.invariant-loop-value
invariant-loop-value l = list_all (is_among l.cut) (drop l.value-index l.values) ≡ list_all (is_among l.cut) l.values
