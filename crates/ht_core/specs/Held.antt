-- How a table holds its items: by their keys, each at a place, and the places queued by the moments when the items are due.
use Rattle.std.specs.Prelude.{◌≡◌, ◌≢◌, ℕ, ◌+◌, ◌*◌, ◌<◌, ◌≤◌, ◌⊎◌, nat_le, nat_lt, Bool, true, false, if◌then◌else◌, List, length, sum_by, Option, Some, None, MatchOption, ◌∷◌, IsPermutation, slice_get}
use Rattle.std.specs.Option.{option_and_then}
use Rattle.std.specs.FinMap as map
use Rattle.std.specs.Str.{bytes_eq}
use Rattle.indexmap.specs.IndexMap.{IndexMap, get}
use Rattle.ht_core.specs.declared.item.Item.{Item}
use Rattle.ht_core.specs.declared.dues.Due.{Due}
use Rattle.ht_core.specs.Queues.{Queue, IsQueued}
use Rattle.ht_core.specs.Tables.{Items, is_live, live}

abbrev pub Entries : Type 0
Entries = List (List ℕ × Item)

-- the items that are held
abbrev pub items_of : Entries → Items
items_of entries = map.from_entries entries

-- the moment when the item at a place is due, if there is an item, and a moment
abbrev pub due_at : Entries → ℕ → Option ℕ
due_at entries place = option_and_then (λ e. e.1.due) (slice_get entries place)

-- each place whose item is due some time is queued in time
abbrev pub AreQueued : Entries → List Due → Type 0
AreQueued entries places = (place moment : ℕ) → due_at entries place ≡ Some moment → IsQueued places place moment

-- the same of each place but one
abbrev pub AreQueuedBut : ℕ → Entries → List Due → Type 0
AreQueuedBut but entries places = (place moment : ℕ) → place ≢ but → due_at entries place ≡ Some moment → IsQueued places place moment

-- where any item is due some time, there is room for more than twice as many places as there are items
abbrev pub HasRoom : Entries → Queue → Type 0
HasRoom entries queue = (place moment : ℕ) → due_at entries place ≡ Some moment → 2 * length entries + 66 ≤ length queue.places + queue.spare

-- the place is queued at its moment, if there is one
abbrev pub Queues : List Due → ℕ → Option ℕ → List Due → Type 0
Queues old place moment new = MatchOption moment (new ≡ old) (λ m. IsPermutation (record { moment = m; place = place } ∷ old) new)

-- what is held: the queue has no more than twice as many places as there are items, and 64
pub record IsHeld (entries : Entries) (queue : Queue) : Type 0 where
  pub queued : AreQueued entries queue.places
  pub few : length queue.places ≤ 2 * length entries + 64
  pub room : HasRoom entries queue

-- the item at the place is no longer live, and its key is found there
abbrev pub IsOver : {S : Type 0} → ℕ → IndexMap (List ℕ) Item S → ℕ → Type 0
IsOver clock items place = (key : List ℕ) × (item : Item) × (slice_get items.entries place ≡ Some (key, item)) × (get bytes_eq items key ≡ Some item) × (is_live clock item ≡ false)

-- what is left where the item at the place was taken out if it was no longer live, and the last item took its place
pub record Expires (clock : ℕ) (old : Entries) (place : ℕ) (new : Entries) : Type 0 where
  pub same : live clock (items_of new) ≡ live clock (items_of old)
  pub others : (at moment : ℕ) → at ≢ place → due_at new at ≡ Some moment → due_at old at ≡ Some moment
  pub no_more : length new ≤ length old
  pub no_new : (at moment : ℕ) → due_at new at ≡ Some moment → (from : ℕ) × (due_at old from ≡ Some moment)
  pub goes_on : (length new < length old) ⊎ ((moment : ℕ) → due_at new place ≡ Some moment → clock < moment)

-- how many items there are, and how many places whose moments have come
abbrev pub work : ℕ → Entries → List Due → ℕ
work clock entries places = length entries + sum_by (λ due. if nat_le due.moment clock then 1 else 0) places

-- the items, where the one of the key is due at this moment from now on, if there is one
abbrev pub due_from_now_on : Items → List ℕ → Option ℕ → Option Item → Items
due_from_now_on items key due None = items
due_from_now_on items key due (Some item) = map.insert items key (record { value = item.value; due = due })

-- the moment when the item is due, if there is an item, and a moment
abbrev pub due_of : Option Item → Option ℕ
due_of item = option_and_then (λ i. i.due) item

-- there is a moment, and it comes before the one for which a place is queued
abbrev pub comes_before : Option ℕ → Option ℕ → Bool
comes_before None queued = false
comes_before (Some moment) None = true
comes_before (Some moment) (Some queued) = nat_lt moment queued
