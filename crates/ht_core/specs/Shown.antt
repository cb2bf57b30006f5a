-- The table that a `Table` of the program is.
use Rattle.ht_core.specs.declared.table.Table.{Table}
use Rattle.ht_core.specs.Tables.{TableState, live}

abbrev pub state_of : Table → TableState
state_of t = record { spec = t.spec; clock = t.clock; items = live t.clock t.held }
