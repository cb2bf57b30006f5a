use Rattle.std.proofs.Common.{◌≡◌, List, ◌++◌, sym, ap, ◌∙◌}
use Rattle.sip_scan.specs.declared.field.Kind.TheVariants as kind
use Rattle.sip_msg.specs.Fields.{is_of}
use Rattle.host_meaning.specs.Routing.{values_of}
use Rattle.message_functions.proofs.Steps.{flat_push, flat_same}
use Rattle.message_functions.proofs.routing.route_values.Goals as goal
use Rattle.message_functions.proofs.routing.route_values.Goals.{then-is_of+in_ok-push_values, else-is_of}

pub loop-field-preserved : goal.loop-field-preserved
loop-field-preserved c =
    let g = values_of c.args.b.now in
    let fields = c.args.fields.now in
    let i = c.loop-field.field-index in
    let lt = c.loop-field-test.true in
    elim c.if-is_of.branch [
      | then-is_of+in_ok-push_values w ↦ rw w.values-is (flat_push g (is_of kind.Route) fields i _ c.loop-field.values.items w.push_values.new.values.items lt (sym w.if-is_of.ensures) c.loop-field.invariant.0 w.in_ok-push_values.ensures.values, w.in_ok-push_values.ensures.lie c.loop-field.invariant.1)
      | else-is_of w ↦ rw w.values-is (c.loop-field.invariant.0 ∙ sym (flat_same g (is_of kind.Route) fields i _ lt (sym w.if-is_of.ensures)), c.loop-field.invariant.1)
    ]
