-- What a pass knows, and what it knows after each call.
use Rattle.std.specs.Prelude.{ℕ, ◌+◌, List, [], ◌∷◌, ◌++◌, Some, None}
use Rattle.histories.specs.declared.record.Recorded.{Recorded}
use Rattle.histories.specs.declared.record.LogItem.{LogItem}
use Rattle.histories.specs.declared.record.LogItem.TheVariants.{Given, Noted}
use Rattle.histories.specs.Records.{recorded}
use Rattle.turn_table.specs.declared.view.PassView.{PassView}
use Rattle.turn_table.specs.Lists.{list_at, list_put, longer_of}

module _ {F R N : Type 0} where
  -- the pass of this number in a new table, before it took or gave
  abbrev pub first_view : F → ℕ → ℕ → PassView F R N
  first_view f number made = record { fixed = Some f; number = number; made = made; holds = None; seen = []; mine = []; looks = []; got = [] }

  -- after a take of cell k with this history
  abbrev pub view_after_take : PassView F R N → ℕ → List (Recorded R) → PassView F R N
  view_after_take v k h = record v { holds = Some k; seen = list_put v.seen k h }

  -- after a look at cell k that found this word and not a cell to take
  abbrev pub view_after_look : PassView F R N → ℕ → ℕ → PassView F R N
  view_after_look v k word = record v { looks = v.looks ++ (k, word) ∷ [] }

  -- after a give of this record to cell k: it stands at the end of the cell's history under the number of the pass, and of its own list
  abbrev pub view_after_give : PassView F R N → ℕ → R → PassView F R N
  view_after_give v k what = record v {
    holds = None;
    seen = list_put v.seen k (list_at v.seen k ++ recorded v.number what ∷ []);
    mine = v.mine ++ Given k what ∷ [];
  }

  -- after this note
  abbrev pub view_after_note : PassView F R N → N → PassView F R N
  view_after_note v what = record v { mine = v.mine ++ Noted what ∷ [] }

  -- the pass that makes the others, after it made one more
  abbrev pub view_after_deal : PassView F R N → PassView F R N
  view_after_deal v = record v { made = v.made + 1 }

  -- the one that it made
  abbrev pub dealt_view : PassView F R N → PassView F R N
  dealt_view v = record { fixed = v.fixed; number = v.made; made = 0; holds = None; seen = []; mine = []; looks = []; got = [] }

  -- the pass that takes in the others, after it took in w
  abbrev pub view_after_gather : PassView F R N → PassView F R N → PassView F R N
  view_after_gather v w = record v { seen = longer_of v.seen w.seen; got = v.got ++ w.mine ∷ [] }

  -- the one that it took in
  abbrev pub spent_view : PassView F R N
  spent_view = record { fixed = None; number = 0; made = 0; holds = None; seen = []; mine = []; looks = []; got = [] }

  -- the own list of this number, as the pass that took in all others has it
  abbrev pub list_of : PassView F R N → ℕ → List (LogItem R N)
  list_of v number = list_at (v.mine ∷ v.got) number
