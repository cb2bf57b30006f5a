use Rattle.std.proofs.Common.{take, true}
use Rattle.std.specs.Prelude.{map}
use Rattle.std.specs.List.{filter}
use Rattle.msg_edits.specs.declared.parts.Edit.TheVariants.{Cut}
use Rattle.host_meaning.specs.declared.routing.RouteValue.{RouteValue}
use Rattle.host_meaning.specs.Routing.{is_among}
use Rattle.message_functions.specs.Edits.{Makes}
use Rattle.message_functions.proofs.routing.cut_alone.Given as goal

abbrev pub invariant-loop-value : goal.invariant-loop-value
invariant-loop-value l = Makes l.initial.edits (map (λ (v : RouteValue). Cut v.alone) (filter (is_among l.places) (take l.value-index l.values))) l.edits true
