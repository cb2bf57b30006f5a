use Rattle.std.proofs.Common.{◌≡◌, drop}
use Rattle.std.specs.List.{filter}
use Rattle.sip_scan.specs.declared.field.Kind.TheVariants as kind
use Rattle.sip_msg.specs.Fields.{is_of}
use Rattle.message_functions.proofs.routing.has_route.Given as goal

abbrev pub invariant-loop-field : goal.invariant-loop-field
invariant-loop-field l = filter (is_of kind.Route) (drop l.field-index l.fields) ≡ filter (is_of kind.Route) l.fields
