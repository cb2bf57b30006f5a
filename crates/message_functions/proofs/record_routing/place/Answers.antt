use Rattle.std.proofs.Common.{◌≡◌, List, refl, sym, ap, ◌∙◌, None, take}
use Rattle.std.specs.List.{filter, last_or}
use Rattle.sip_scan.specs.declared.field.HeaderSpan.{HeaderSpan}
use Rattle.sip_scan.specs.declared.field.Kind.TheVariants as kind
use Rattle.sip_msg.specs.Fields.{is_of}
use Rattle.host_meaning.specs.Headers.{end_of_field}
use Rattle.message_functions.proofs.Drops.{find_here, find_past, last_push}
use Rattle.message_functions.proofs.Steps.{passing, failing}
use Rattle.message_functions.proofs.record_routing.place.Goals as goal
use Rattle.message_functions.proofs.record_routing.place.Goals.{then-is_of-2, else-is_of-2}

pub returns-then-is_of : goal.returns-then-is_of
returns-then-is_of c =
    let found = find_here (is_of kind.RecordRoute) c.args.fields.now c.loop-field.field-index _ c.loop-field-test.true (sym c.if-is_of.ensures) in
    rw (sym c.loop-field.invariant.0, found) refl

pub loop-field-preserved : goal.loop-field-preserved
loop-field-preserved c =
    let fields = c.args.fields.now in
    let i = c.loop-field.field-index in
    let lt = c.loop-field-test.true in
    let end = λ (l : List HeaderSpan). end_of_field (last_or None l) in (
      sym (find_past (is_of kind.RecordRoute) fields i _ lt (sym c.if-is_of.ensures)) ∙ c.loop-field.invariant.0,
      elim c.if-is_of-2.branch [
        | then-is_of-2 w ↦ ap end (passing (is_of kind.Via) fields i _ lt (sym w.if-is_of-2.ensures)) ∙ ap end_of_field (last_push None (filter (is_of kind.Via) (take i fields)) _) ∙ sym w.behind_vias-is
        | else-is_of-2 w ↦ ap end (failing (is_of kind.Via) fields i _ lt (sym w.if-is_of-2.ensures)) ∙ c.loop-field.invariant.1 ∙ sym w.behind_vias-is
      ],
    )
