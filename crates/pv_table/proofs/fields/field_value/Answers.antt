use Rattle.std.proofs.Common.{All, subst, sym}
use Rattle.sip_scan.specs.Field.{IsField}
use Rattle.pv_table.proofs.PartsWithin.{fields_are}
use Rattle.pv_table.proofs.fields.field_value.Goals as goal

pub first_named-requires : goal.first_named-requires
first_named-requires c = subst (λ fields. All (IsField c.args.b.now) fields) (sym c.as_slice.ensures.value) (fields_are c.args.b.now c.args.m.now c.requires)
