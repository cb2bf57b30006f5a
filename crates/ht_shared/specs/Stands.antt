-- What a table in its cell is, after the operations of its history.
use Rattle.std.specs.Prelude.{◌≡◌, ℕ, List, Some}
use Rattle.std.specs.List.{slice_get}
use Rattle.histories.specs.Runs.{Runs}
use Rattle.pv_values.specs.declared.table.TableSpec.{TableSpec}
use Rattle.ht_core.specs.declared.operation.TabRecord.{TabRecord}
use Rattle.ht_core.specs.Tables.{TableState, fresh, IsStep}
use Rattle.ht_core.specs.Shown.{state_of}
use Rattle.ht_shared.specs.declared.cell.TableCell.{TableCell}
use Rattle.ht_shared.specs.declared.cell.TablesFixed.{TablesFixed}

-- table k of the script, without items at first, did these operations one after another, and is now t
abbrev pub IsAfter : TablesFixed → ℕ → List TabRecord → TableState → Type 0
IsAfter f k rs t = (spec : TableSpec) × (slice_get f.specs.items k ≡ Some spec) × Runs (IsStep f.patterns.value) (fresh spec) rs t

abbrev pub TableStands : TablesFixed → ℕ → TableCell → List TabRecord → Type 0
TableStands f k c rs = IsAfter f k rs (state_of c.table.value)
