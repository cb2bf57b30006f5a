use Rattle.std.proofs.Common.{◌≡◌, drop}
use Rattle.std.specs.List.{find}
use Rattle.pv_table.specs.Fields.{is_field_named}
use Rattle.pv_table.proofs.fields.first_named.Given as goal

-- none of those before is it
abbrev pub invariant-loop-field : goal.invariant-loop-field
invariant-loop-field l = find (is_field_named l.b l.name) (drop l.field-index l.fields) ≡ find (is_field_named l.b l.name) l.fields
