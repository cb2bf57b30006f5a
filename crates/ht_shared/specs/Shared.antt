-- What contracts see of the tables, and what an operation on one makes of a pass.
use Rattle.std.specs.Prelude.{◌≡◌, ℕ, List, Option, Some}
use Rattle.std.specs.List.{slice_get}
use Rattle.atomic_table.specs.declared.shared.Seat.{Seat}
use Rattle.pv_values.specs.declared.table.TableSpec.{TableSpec}
use Rattle.ht_core.specs.declared.operation.TabRecord.{TabRecord}
use Rattle.ht_core.specs.Tables.{fresh, IsStep}
use Rattle.turn_table.specs.declared.view.PassView.{PassView}
use Rattle.turn_table.specs.Tables.{fixed_of, cells_of, IsPassOf}
use Rattle.turn_table.specs.Objects.{DidInTurn}
use Rattle.ht_shared.specs.declared.cell.TableCell.{TableCell}
use Rattle.ht_shared.specs.declared.cell.TablesFixed.{TablesFixed}
use Rattle.ht_shared.specs.declared.tables.Tables.{Tables}

-- a worker's pass
abbrev pub TablesPass : Type 0
TablesPass = Seat (Option TableCell) (PassView TablesFixed TabRecord (Unit {0}))

-- the pass is one of these tables
abbrev pub IsTablesPass : Tables → TablesPass → Type 0
IsTablesPass t p = IsPassOf t.turns p

-- what the script says of each table, by its number
abbrev pub specs_of : Tables → List TableSpec
specs_of t = (fixed_of t.turns).specs.items

-- the texts of the script's patterns
abbrev pub patterns_of : Tables → List (List ℕ)
patterns_of t = (fixed_of t.turns).patterns.value

-- how many tables there are
abbrev pub count_of : Tables → ℕ
count_of t = cells_of t.turns

-- in one turn of table k the pass p did this operation, and is now q: the reply is the table's at that place of its history
pub record AppliesTo (tables : Tables) (k : ℕ) (r : TabRecord) (p q : TablesPass) : Type 0 where
  pub spec : TableSpec
  pub is_spec : slice_get (specs_of tables) k ≡ Some spec
  pub did : DidInTurn (IsStep (patterns_of tables)) (fresh spec) k r p q
