-- What a turn is, after a write through its value.
use Rattle.std.specs.Borrow.{Lends, MutBor, Fml}
use denote.RattleType.{RattleType}
use Rattle.turn_table.specs.declared.turn.Turn.{Turn}
use Rattle.turn_table.specs.contracts.turn.Turn.{the_row}

-- the turn with w for its value
abbrev pub turn_with : {C : Type 0} → Turn C → C → Turn C
turn_with t w = record t { value = w }

-- the turn ends with the last value behind r
abbrev pub LendsValue : (R : RattleType) → MutBor (Turn R.Denot) → MutBor R.Denot → Fml
LendsValue R t r = Lends (the_row R) R t r (turn_with t.now)
