-- What an index holds, and what each of its calls answers and leaves.
use Rattle.std.specs.Prelude.{◌≡◌, ℕ, ◌+◌, ◌≤◌, min, List, Some, None, slice_get, slice_set, replicate}
use Rattle.std.specs.Option.{option_map_or}
use Rattle.server_key.specs.declared.key.Key.{Key}
use Rattle.txn_store.specs.declared.index.IndexPlace.{IndexPlace}
use Rattle.txn_store.specs.declared.index.IndexEnd.{IndexEnd}
use Rattle.txn_store.specs.declared.index.IndexEnd.TheVariants.{Old, New, Full}

-- by the number of each slot, its generation and the key that it holds, if any
abbrev pub Places : Type 0
Places = List IndexPlace

-- no slot holds a key, and each is of this generation
abbrev pub vacant_places_of : ℕ → ℕ → Places
vacant_places_of slots generation = replicate slots (record { generation = generation; key = None })

-- no slot holds a key yet, and each is of generation 0
abbrev pub vacant_places : ℕ → Places
vacant_places slots = vacant_places_of slots 0

-- the slot is of this generation and holds the key
abbrev pub HoldsKey : Places → ℕ → ℕ → Key → Type 0
HoldsKey places slot generation key = slice_get places slot ≡ Some (record { generation = generation; key = Some key })

-- no slot holds the key
abbrev pub IsHeldNowhere : Places → Key → Type 0
IsHeldNowhere places key = (slot generation : ℕ) → ¬ HoldsKey places slot generation key

-- no key is held by two slots
abbrev pub EachKeyIsOnce : Places → Type 0
EachKeyIsOnce places = (slot generation other other_generation : ℕ) (key : Key)
    → HoldsKey places slot generation key → HoldsKey places other other_generation key → slot ≡ other

-- the slot is of this generation and holds no key
abbrev pub IsFree : Places → ℕ → ℕ → Type 0
IsFree places slot generation = slice_get places slot ≡ Some (record { generation = generation; key = None })

-- the lowest slot that holds no key
pub record IsLowestFree (places : Places) (slot generation : ℕ) : Type 0 where
  pub is_free : IsFree places slot generation
  pub lowest : (other other_generation : ℕ) → IsFree places other other_generation → slot ≤ other

-- each slot holds a key
abbrev pub NoneIsFree : Places → Type 0
NoneIsFree places = (slot generation : ℕ) → ¬ IsFree places slot generation

-- some slot holds no key
abbrev pub SomeIsFree : Places → Type 0
SomeIsFree places = (slot : ℕ) × (generation : ℕ) × IsFree places slot generation

-- what a claim of the key answers: the slot that holds it; else the lowest one that holds no key; else Full
abbrev pub ClaimAnswers : Places → Key → IndexEnd → Type 0
ClaimAnswers places key (Old slot generation) = HoldsKey places slot generation key
ClaimAnswers places key (New slot generation) = IsHeldNowhere places key × IsLowestFree places slot generation
ClaimAnswers places key Full = IsHeldNowhere places key × NoneIsFree places

-- what a claim of the key leaves: a new slot holds it from now on
abbrev pub after_claim : Places → Key → IndexEnd → Places
after_claim places key (Old slot generation) = places
after_claim places key (New slot generation) = slice_set places slot (record { generation = generation; key = Some key })
after_claim places key Full = places

-- a slot without its key, of the next generation. The greatest u64 has no next one
abbrev pub freed : IndexPlace → IndexPlace
freed place = record { generation = min (place.generation + 1) 18446744073709551615; key = None }

-- what is left where the slot is freed
abbrev pub after_free : Places → ℕ → Places
after_free places slot = option_map_or (λ place. slice_set places slot (freed place)) (slice_get places slot) places
