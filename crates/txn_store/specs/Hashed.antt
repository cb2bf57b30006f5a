-- How an index finds the slot of a key: each slot that holds a key is in the list of the key's hash.
use Rattle.std.specs.Prelude.{◌≡◌, ◌↔◌, ℕ, ◌*◌, ◌%◌, ◌^◌, ◌<◌, ◌≤◌, List, [], ◌∷◌, Option, length, map}
use Rattle.std.specs.List.{fold}
use Rattle.std.specs.Option.{option_map}
use Rattle.std.specs.Hash.{le_bytes}
use Rattle.key_hash.specs.Hashers as hashers
use Rattle.key_hash.specs.declared.state.HashState.{HashState}
use Rattle.key_hash.specs.declared.state.KeyHasher.{KeyHasher}
use Rattle.server_key.specs.declared.key.Key.{Key}
use Rattle.slot_lists.specs.Lists.{Listed}
use Rattle.slot_lists.specs.Bits.{Has}
use Rattle.txn_store.specs.declared.index.IndexPlace.{IndexPlace}
use Rattle.txn_store.specs.Places.{Places, EachKeyIsOnce, IsFree}

-- the hasher after one byte
abbrev pub write_byte : KeyHasher → ℕ → KeyHasher
write_byte hasher byte = hashers.write hasher (byte ∷ [])

-- the hasher after the parts of a key but its host
abbrev pub write_parts : HashState → List ℕ → List ℕ → ℕ → KeyHasher
write_parts state branch method port = hashers.write (hashers.write (hashers.write (hashers.build_hasher state) branch) method) (le_bytes 2 port)

-- the hash of a key: of its branch, its method, its port, and its host byte by byte
abbrev pub hash_of : HashState → Key → ℕ
hash_of state key = hashers.finish (fold write_byte (write_parts state key.branch key.method key.port) key.host)

-- the list of a key, where there are so many
abbrev pub list_of : HashState → ℕ → Key → ℕ
list_of state lists key = hash_of state key % lists

-- the list in which a slot is: that of its key, if it holds one
abbrev pub list_at : HashState → ℕ → IndexPlace → Option ℕ
list_at state lists place = option_map (list_of state lists) place.key

-- the lists are those of the places' keys, and the bits tell which places are free
pub record IsIndex (places : Places) (state : HashState) (lists : Listed) (free : List ℕ) : Type 0 where
  pub few : length places < 2 ^ 32
  pub once : EachKeyIsOnce places
  pub some_list : 0 < lists.lists
  pub listed : lists.places ≡ map (list_at state lists.lists) places
  pub room : length places ≤ 64 * length free
  pub told : (slot : ℕ) → Has free slot ↔ ((generation : ℕ) × IsFree places slot generation)
