use Rattle.std.proofs.Common.{◌≡◌, drop}
use Rattle.std.specs.List.{find}
use Rattle.pv_table.specs.Fields.{is_field_named}
use Rattle.message_functions.proofs.headers.has_field.Given as goal

-- none of those before is it
abbrev pub invariant-loop-field : goal.invariant-loop-field
invariant-loop-field l = find (is_field_named l.b l.name) (drop l.field-index l.fields) ≡ find (is_field_named l.b l.name) l.fields
