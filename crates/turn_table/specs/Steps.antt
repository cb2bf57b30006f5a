-- What each atomic step on a word tells the pass that makes it.
use Rattle.std.specs.Prelude.{◌≡◌, ℕ, ◌*◌, ◌%◌, ◌<◌, ◌≤◌, ◌⊎◌, List, [], ◌∷◌, length, Option, Some}
use Rattle.atomic_table.specs.Table.{Me, Step}
use Rattle.histories.specs.declared.record.Recorded.{Recorded}
use Rattle.histories.specs.Records.{records}
use Rattle.turn_table.specs.declared.view.PassView.{PassView}
use Rattle.turn_table.specs.Lists.{IsBeginning, list_at}
use Rattle.turn_table.specs.Views.{view_after_take, view_after_look, view_after_give, view_after_note}

module _ {C F R : Type 0} (N : Type 0) (top : ℕ) (stands : F → ℕ → C → List R → Type 0) where
  abbrev Mine : Type 0
  Mine = Me (Option C) (PassView F R N)

  -- the pass took cell k, with its whole history
  pub record Took (k : ℕ) (m : Mine) (word : ℕ) (m' : Mine) : Type 0 where
    pub value : C
    pub history : List (Recorded R)
    pub fixed : F
    pub fixed_is : m.0.fixed ≡ Some fixed
    pub count : word ≡ 2 * length history
    pub short : length history < top
    pub begins : IsBeginning (list_at m.0.seen k) history
    pub right : stands fixed k value (records history)
    pub view : m'.0 ≡ view_after_take m.0 k history
    pub carried : m'.1 ≡ (k, Some value) ∷ m.1

  -- a word that is even and below 2 * top gives the cell, and any other is a look
  abbrev pub TakeTells : Step (Option C) → Mine → ℕ → Mine → Type 0
  TakeTells st m word m' = (word % 2 ≡ 0 → word < 2 * top → Took st.word m word m')
      × ((word % 2 ≡ 1) ⊎ (2 * top ≤ word) → m' ≡ (view_after_look m.0 st.word word, m.1))

module _ {C F R N : Type 0} where
  -- the cell has its value back, and its history one record more, of which `told` holds
  abbrev pub GiveTells : (R → Type 0) → Step (Option C) → Me (Option C) (PassView F R N) → ℕ → Me (Option C) (PassView F R N) → Type 0
  GiveTells told st m word m' = (x : R) × told x × (m'.0 ≡ view_after_give m.0 st.word x) × (m'.1 ≡ [])

  -- the own list has one note more, of which `told` holds
  abbrev pub NoteTells : (N → Type 0) → Step (Option C) → Me (Option C) (PassView F R N) → ℕ → Me (Option C) (PassView F R N) → Type 0
  NoteTells told st m word m' = (x : N) × told x × (m'.0 ≡ view_after_note m.0 x) × (m'.1 ≡ m.1)
