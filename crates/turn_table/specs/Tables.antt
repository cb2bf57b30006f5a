-- What contracts see of a table of cells.
use Rattle.std.specs.Prelude.{ℕ, Option}
use Rattle.atomic_table.specs.Seated.{TableId}
use Rattle.atomic_table.specs.declared.shared.Seat.{Seat}
use Rattle.turn_table.specs.declared.table.Turns.{Turns}
use Rattle.turn_table.specs.declared.view.PassView.{PassView}
use Rattle.turn_table.specs.Passes.{IsPass}

module _ {C R N F : Type 0} where
  -- which table it is: no other has this name
  abbrev pub id_of : Turns C R N F → TableId
  id_of t = t.table.shared.table_id

  -- its fixed part
  abbrev pub fixed_of : Turns C R N F → F
  fixed_of t = t.table.shared.key

  -- how many cells it has
  abbrev pub cells_of : Turns C R N F → ℕ
  cells_of t = t.table.shared.table_id.slots

  -- the seat is a pass of this table
  abbrev pub IsPassOf : Turns C R N F → Seat (Option C) (PassView F R N) → Type 0
  IsPassOf t p = IsPass (id_of t) (fixed_of t) p
