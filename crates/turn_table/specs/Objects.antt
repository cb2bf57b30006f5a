-- Objects behind turns whose definition is a relation between a state, a record and a state.
use Rattle.std.specs.Prelude.{ℕ, List, Option}
use Rattle.atomic_table.specs.declared.shared.Seat.{Seat}
use Rattle.histories.specs.declared.record.Recorded.{Recorded}
use Rattle.histories.specs.Records.{records}
use Rattle.histories.specs.Runs.{Runs}
use Rattle.turn_table.specs.declared.view.PassView.{PassView}
use Rattle.turn_table.specs.Passes.{HadTurn}

-- p had one turn of cell k, did there what the record says, and is now q. Before its first turn the object was `first`
pub record DidInTurn {C F R N S : Type 0} (step : S → R → S → Type 0) (first : S) (k : ℕ) (r : R) (p q : Seat (Option C) (PassView F R N)) : Type 0 where
  -- the history that the object had
  pub before : List (Recorded R)
  pub had : HadTurn k before r p q
  -- what it was after that history, and what it became: the record is right at this place of the history
  pub old : S
  pub new : S
  pub was : Runs step first (records before) old
  pub does : step old r new
