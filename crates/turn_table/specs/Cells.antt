-- The rule of a table of cells: what holds between any two atomic steps.
-- Word k is twice the number of turns that cell k had, and one more while a pass holds the cell. The last word is no cell's.
use Rattle.std.specs.Prelude.{◌≡◌, ◌≢◌, ℕ, suc, ◌+◌, ◌*◌, ◌<◌, ◌≤◌, ◌⊎◌, List, [], length, slice_index, Option, Some, None}
use mathlib.Core.Option.{Option as Maybe, some, none}
use lib.ListN.{get_elem?}
use Rattle.atomic_table.specs.Table.{State}
use Rattle.histories.specs.declared.record.Recorded.{Recorded}
use Rattle.histories.specs.declared.record.LogItem.{LogItem}
use Rattle.histories.specs.Records.{records, of, given}
use Rattle.turn_table.specs.declared.view.PassView.{PassView}
use Rattle.turn_table.specs.Lists.{IsBeginning, list_at}

-- the most turns of a cell, 2^60
abbrev pub most_turns : ℕ
most_turns = 1152921504606846976

module _ {C F R : Type 0} (N : Type 0) (top : ℕ) (stands : F → ℕ → C → List R → Type 0) where
  abbrev St : Type 0
  St = State (Option C) (PassView F R N)

  -- the cell is at home, with the value that its last give left
  pub record IsHome (fixed : F) (k word : ℕ) (home : Maybe (Maybe (Option C))) (h : List (Recorded R)) : Type 0 where
    pub value : C
    pub at_home : home ≡ some (some (Some value))
    pub right : stands fixed k value (records h)
    pub short : length h ≤ top
    -- the second: the cell had its last turn, and was asked for again
    pub counts : (word ≡ 2 * length h) ⊎ ((word ≡ 2 * length h + 1) × (length h ≡ top))

  -- a pass holds the cell
  pub record IsOut (word : ℕ) (home : Maybe (Maybe (Option C))) (h : List (Recorded R)) : Type 0 where
    pub away : home ≡ some none
    pub short : length h < top
    pub counts : word ≡ 2 * length h + 1

  abbrev pub IsCell : F → ℕ → ℕ → Maybe (Maybe (Option C)) → List (Recorded R) → Type 0
  IsCell fixed k word home h = IsHome fixed k word home h ⊎ IsOut word home h

  -- the seat i was taken in by another
  abbrev pub IsGone : St → ℕ → Type 0
  IsGone s i = (u : PassView F R N) × (get_elem? s.views i ≡ some u) × (u.fixed ≡ None)

  -- what the pass in seat j knows, where the histories are hs and owner k is the seat that holds cell k
  pub record Knows (hs : ℕ → List (Recorded R)) (owner : ℕ → ℕ) (s : St) (j : ℕ) (v : PassView F R N) : Type 0 where
    pub number : v.number ≡ j
    pub makes : v.made ≢ 0 → (j ≡ 0) × (v.made ≡ length s.views)
    pub seen : (k : ℕ) → IsBeginning (list_at v.seen k) (hs k)
    pub own : (k : ℕ) → of j (hs k) ≡ given k v.mine
    pub holding : (k : ℕ) → v.holds ≡ Some k
        → (k < length s.homes) × (owner k ≡ j) × (list_at v.seen k ≡ hs k) × IsOut (slice_index s.words k) (get_elem? s.homes k) (hs k)
    pub has : (i : ℕ) (l : List (LogItem R N)) → get_elem? v.got i ≡ some l → IsGone s (suc i) × ((k : ℕ) → of (suc i) (hs k) ≡ given k l)

  -- some pass has seen the whole history h of cell k
  abbrev pub IsKnownWhole : F → List (PassView F R N) → ℕ → List (Recorded R) → Type 0
  IsKnownWhole fixed views k h = (j : ℕ) × (v : PassView F R N) × (get_elem? views j ≡ some v) × (v.fixed ≡ Some fixed) × (list_at v.seen k ≡ h)

  -- the seat j holds cell k
  abbrev pub IsHeld : F → List (PassView F R N) → ℕ → ℕ → Type 0
  IsHeld fixed views j k = (v : PassView F R N) × (get_elem? views j ≡ some v) × (v.fixed ≡ Some fixed) × (v.holds ≡ Some k)

  -- there is one history of each cell, and each pass knows of it what its view says
  pub record IsTurnTable (fixed : F) (s : St) : Type 0 where
    pub hs : ℕ → List (Recorded R)
    pub owner : ℕ → ℕ
    pub wide : length s.words ≡ length s.homes + 1
    pub cells : (k : ℕ) → k < length s.homes → IsCell fixed k (slice_index s.words k) (get_elem? s.homes k) (hs k)
    pub views : (j : ℕ) (v : PassView F R N) → get_elem? s.views j ≡ some v → (f : F) → v.fixed ≡ Some f → (f ≡ fixed) × Knows hs owner s j v
    pub held : (k : ℕ) → k < length s.homes → IsOut (slice_index s.words k) (get_elem? s.homes k) (hs k) → IsHeld fixed s.views (owner k) k
    pub nobody : (j k : ℕ) → length s.views ≤ j → of j (hs k) ≡ []
    pub known : (k : ℕ) → IsKnownWhole fixed s.views k (hs k)
