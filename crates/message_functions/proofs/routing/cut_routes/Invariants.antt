use Rattle.std.proofs.Common.{take, true}
use Rattle.std.specs.List.{filter, flat_map}
use Rattle.sip_scan.specs.declared.field.Kind.TheVariants as kind
use Rattle.sip_msg.specs.Fields.{is_of}
use Rattle.host_meaning.specs.Routing.{values_of, cuts_in}
use Rattle.message_functions.specs.Edits.{Makes}
use Rattle.message_functions.proofs.routing.cut_routes.Given as goal

abbrev pub invariant-loop-field : goal.invariant-loop-field
invariant-loop-field l = Makes l.initial.edits (flat_map (λ f. cuts_in l.places f (values_of l.b f)) (filter (is_of kind.Route) (take l.field-index l.fields))) l.edits true
