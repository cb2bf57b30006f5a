-- Lists of slots, each in the order of the slots' numbers.
use Rattle.std.specs.Prelude.{◌≡◌, ℕ, ◌+◌, ◌<◌, ◌≤◌, ◌^◌, List, Option, Some, None, length, slice_get, slice_set, slice_index_or}

-- how many lists there are, and by the number of each slot the list in which it is, or None
pub record Listed : Type 0 where
  pub lists : ℕ
  pub places : List (Option ℕ)

-- the slot is in this list
abbrev pub IsIn : List (Option ℕ) → ℕ → ℕ → Type 0
IsIn places slot list = slice_get places slot ≡ Some (Some list)

-- the lowest slot of the list from this one on
abbrev pub IsNextIn : List (Option ℕ) → ℕ → ℕ → Option ℕ → Type 0
IsNextIn places list from None = (slot : ℕ) → IsIn places slot list → slot < from
IsNextIn places list from (Some next) = IsIn places next list × (from ≤ next) × ((slot : ℕ) → IsIn places slot list → from ≤ slot → next ≤ slot)

-- the last slot of the list below this one
abbrev pub IsLastBelow : List (Option ℕ) → ℕ → ℕ → Option ℕ → Type 0
IsLastBelow places list below None = (slot : ℕ) → IsIn places slot list → below ≤ slot
IsLastBelow places list below (Some last) = IsIn places last list × (last < below) × ((slot : ℕ) → IsIn places slot list → slot < below → slot ≤ last)

-- the slot is in this list from now on, or in none
abbrev pub placed : Listed → ℕ → Option ℕ → Listed
placed l slot list = record { lists = l.lists; places = slice_set l.places slot list }

-- the links are those of the lists in which the slots are
pub record AreLists (places first next : List (Option ℕ)) : Type 0 where
  pub few : length places < 2 ^ 32
  pub few_lists : length first < 2 ^ 32
  pub listed : (slot list : ℕ) → IsIn places slot list → list < length first
  pub nexts : length next ≡ length places
  pub firsts : (list : ℕ) → list < length first → IsNextIn places list 0 (slice_index_or first list None)
  pub links : (slot list : ℕ) → IsIn places slot list → IsNextIn places list (slot + 1) (slice_index_or next slot None)
