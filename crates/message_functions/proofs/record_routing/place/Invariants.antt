use Rattle.std.proofs.Common.{◌≡◌, take, drop, None}
use Rattle.std.specs.List.{filter, last_or}
use Rattle.sip_scan.specs.declared.field.Kind.TheVariants as kind
use Rattle.sip_msg.specs.Fields.{first, is_of}
use Rattle.host_meaning.specs.Headers.{end_of_field}
use Rattle.message_functions.proofs.record_routing.place.Given as goal

-- none of those before is a Record-Route, and the last Via of them ends here
abbrev pub invariant-loop-field : goal.invariant-loop-field
invariant-loop-field l =
    (first kind.RecordRoute (drop l.field-index l.fields) ≡ first kind.RecordRoute l.fields)
    × (end_of_field (last_or None (filter (is_of kind.Via) (take l.field-index l.fields))) ≡ l.behind_vias)
