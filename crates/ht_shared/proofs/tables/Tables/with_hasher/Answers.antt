use Rattle.std.proofs.Common.{◌≡◌, List, Some, sym, subst}
use Rattle.std.specs.List.{slice_get}
use Rattle.pv_values.specs.declared.table.TableSpec.{TableSpec}
use Rattle.ht_shared.proofs.Cells.{each_fresh}
use Rattle.ht_shared.proofs.tables.Tables.with_hasher.Goals as goal

pub new-requires-clause-stand : goal.new-requires-clause-stand
new-requires-clause-stand c κs = λ k v is. let t = each_fresh c.in_ok-cells.cells.items c.args.specs.now c.in_ok-cells.ensures k v is in
    (t.0, subst (λ (specs : List TableSpec). slice_get specs k ≡ Some t.0) (sym c.in_ok-from_slice.ensures.items) t.1, t.2)
