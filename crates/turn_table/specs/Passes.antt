-- Passes of a table: whose they are, what they hold, and what a call makes of them.
use Rattle.std.specs.Prelude.{◌≡◌, ◌≢◌, ℕ, ◌+◌, ◌%◌, ◌<◌, ◌≤◌, ◌^◌, ◌⊎◌, cond, ◌==◌, List, [], ◌∷◌, ◌++◌, length, Option, Some, None}
use mathlib.Core.Option.{some}
use lib.ListN.{get_elem?}
use Rattle.atomic_table.specs.Seated.{TableId}
use Rattle.atomic_table.specs.declared.shared.Seat.{Seat}
use Rattle.histories.specs.declared.record.Recorded.{Recorded}
use Rattle.histories.specs.declared.record.LogItem.{LogItem}
use Rattle.histories.specs.declared.record.LogItem.TheVariants.{Given}
use Rattle.histories.specs.Records.{recorded, records, of, given}
use Rattle.turn_table.specs.declared.view.PassView.{PassView}
use Rattle.turn_table.specs.declared.turn.Turn.{Turn}
use Rattle.turn_table.specs.Lists.{IsBeginning, list_at}
use Rattle.turn_table.specs.Views.{first_view, view_after_take, view_after_look, view_after_give, view_after_note, list_of}
use Rattle.turn_table.specs.Cells.{most_turns}

module _ {C F R N : Type 0} where
  -- the seat is a pass of the table z, whose fixed part is f
  abbrev pub IsPass : TableId → F → Seat (Option C) (PassView F R N) → Type 0
  IsPass z f p = (p.table_id ≡ z) × (p.me.0.fixed ≡ Some f)

  -- the pass holds no cell
  abbrev pub HoldsNone : Seat (Option C) (PassView F R N) → Type 0
  HoldsNone p = (p.me.1 ≡ []) × (p.me.0.holds ≡ None)

  -- the pass holds cell k, and no other
  abbrev pub HoldsCell : ℕ → Seat (Option C) (PassView F R N) → Type 0
  HoldsCell k p = (p.me.1 ≡ (k, None) ∷ []) × (p.me.0.holds ≡ Some k)

  -- it is the same seat of the same table
  abbrev pub IsSameSeat : Seat (Option C) (PassView F R N) → Seat (Option C) (PassView F R N) → Type 0
  IsSameSeat p q = (q.table_id ≡ p.table_id) × (q.id ≡ p.id)

  -- what the pass has seen of the history of cell k
  abbrev pub history_of : Seat (Option C) (PassView F R N) → ℕ → List (Recorded R)
  history_of p k = list_at p.me.0.seen k

  -- a pass's own list: its records and notes, in order
  abbrev pub own_of : Seat (Option C) (PassView F R N) → List (LogItem R N)
  own_of p = p.me.0.mine

  -- p took cell k and is now q, and this is its turn
  pub record TakesTurn (stands : F → ℕ → C → List R → Type 0) (f : F) (k : ℕ) (p q : Seat (Option C) (PassView F R N)) (turn : Turn C) : Type 0 where
    pub cell : turn.cell ≡ k
    pub holds : HoldsCell k q
    -- the value stands for the whole history of the cell
    pub right : stands f k turn.value (records (history_of q k))
    -- which begins with what the pass had seen
    pub begins : IsBeginning (history_of p k) (history_of q k)
    pub short : length (history_of q k) < most_turns
    -- and nothing else is new but looks at a cell that was not free
    pub view : q.me.0 ≡ view_after_take (record p.me.0 { looks = q.me.0.looks }) k (history_of q k)

  -- p looked at cell k and is now q: its word showed that the cell is held, or that it had all its turns
  pub record FindsNoTurn (k : ℕ) (p q : Seat (Option C) (PassView F R N)) : Type 0 where
    pub word : ℕ
    pub why : (word % 2 ≡ 1) ⊎ (2 ^ 61 ≤ word)
    -- the pass has that look, and the turns and records that it had
    pub view : q.me ≡ (view_after_look p.me.0 k word, p.me.1)

  -- p gave cell k back with this record and is now q
  pub record GivesBack (k : ℕ) (what : R) (p q : Seat (Option C) (PassView F R N)) : Type 0 where
    pub free : q.me.1 ≡ []
    pub view : q.me.0 ≡ view_after_give p.me.0 k what

  -- the same with some record of which `told` holds
  pub record GivesTold (told : R → Type 0) (k : ℕ) (p q : Seat (Option C) (PassView F R N)) : Type 0 where
    pub what : R
    pub is_told : told what
    pub gave : GivesBack k what p q

  -- p noted this and is now q
  pub record Notes (what : N) (p q : Seat (Option C) (PassView F R N)) : Type 0 where
    pub carries : q.me.1 ≡ p.me.1
    pub view : q.me.0 ≡ view_after_note p.me.0 what

  -- the same with some note of which `told` holds
  pub record NotesTold (told : N → Type 0) (p q : Seat (Option C) (PassView F R N)) : Type 0 where
    pub what : N
    pub is_told : told what
    pub noted : Notes what p q

  -- q is p after turns that it gave back, and after notes
  pub record GoesOn (p q : Seat (Option C) (PassView F R N)) : Type 0 where
    pub same : IsSameSeat p q
    pub free : HoldsNone q
    pub fixed : q.me.0.fixed ≡ p.me.0.fixed
    pub number : q.me.0.number ≡ p.me.0.number
    pub made : q.me.0.made ≡ p.me.0.made
    pub got : q.me.0.got ≡ p.me.0.got

  -- p had one turn of cell k, whose history was h, gave it back with this record, and is now q
  pub record HadTurn (k : ℕ) (h : List (Recorded R)) (what : R) (p q : Seat (Option C) (PassView F R N)) : Type 0 where
    pub on : GoesOn p q
    -- the history began with what the pass had seen, and has the record more, under the number of the pass
    pub begins : IsBeginning (history_of p k) h
    pub history : history_of q k ≡ h ++ recorded p.me.0.number what ∷ []
    -- and so has the pass's own list
    pub own : own_of q ≡ own_of p ++ Given k what ∷ []
    -- what the pass has seen of other cells is as it was
    pub others : (j : ℕ) → j ≢ k → history_of q j ≡ history_of p j

  -- the passes of a new table, which has n of them: pass i has number i, and the first one knows how many there are
  abbrev pub AreNewPasses : TableId → F → ℕ → List (Seat (Option C) (PassView F R N)) → Type 0
  AreNewPasses z f n ps = (length ps ≡ n)
      × ((i : ℕ) (p : Seat (Option C) (PassView F R N)) → get_elem? ps i ≡ some p → IsPass z f p × HoldsNone p × (p.me.0 ≡ first_view f i (cond (i == 0) n 0)))

  -- passes whose numbers follow one another from this one on, none of them holding a cell
  abbrev pub Follow : TableId → F → ℕ → List (Seat (Option C) (PassView F R N)) → Type 0
  Follow z f from ps = (i : ℕ) (p : Seat (Option C) (PassView F R N)) → get_elem? ps i ≡ some p → IsPass z f p × HoldsNone p × (p.me.0.number ≡ from + i)

  -- all passes of the table, in order, none of them holding a cell
  pub record AreAllPasses (z : TableId) (f : F) (ps : List (Seat (Option C) (PassView F R N))) : Type 0 where
    pub some_pass : 0 < length ps
    pub each : Follow z f 0 ps
    pub first : (p : Seat (Option C) (PassView F R N)) → get_elem? ps 0 ≡ some p → (p.me.0.made ≡ length ps) × (p.me.0.got ≡ [])

  -- what the values at the end and the last pass show: each value stands for the whole history of its cell,
  -- and what a history has of any number is what that number's own list gave to the cell
  pub record IsClosedTable (stands : F → ℕ → C → List R → Type 0) (f : F) (values : List (Option C)) (v : PassView F R N) : Type 0 where
    pub each : (k : ℕ) → k < length values → (y : C) × (get_elem? values k ≡ some (Some y)) × stands f k y (records (list_at v.seen k))
    pub lists : (number k : ℕ) → of number (list_at v.seen k) ≡ given k (list_of v number)
