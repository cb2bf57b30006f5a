use Rattle.std.proofs.Common.{◌≡◌, take}
use Rattle.std.specs.Prelude.{All}
use Rattle.std.specs.List.{filter, flat_map}
use Rattle.sip_scan.specs.declared.field.Kind.TheVariants as kind
use Rattle.sip_msg.specs.Fields.{is_of}
use Rattle.host_meaning.specs.Routing.{values_of}
use Rattle.message_functions.specs.Ways.{LiesIn}
use Rattle.message_functions.proofs.routing.route_values.Given as goal

abbrev pub invariant-loop-field : goal.invariant-loop-field
invariant-loop-field l = (l.values.items ≡ flat_map (values_of l.b) (filter (is_of kind.Route) (take l.field-index l.fields))) × All (LiesIn l.b) l.values.items
