-- Lists of slots, by links: each list is a ring of nodes. The nodes below `slots` are the slots, and node `slots + k` is the
-- head of list k. A slot that is in no list is a ring alone.
use Rattle.std.specs.Prelude.{◌≡◌, ◌≢◌, ◌↔◌, ℕ, ◌+◌, ◌-◌, ◌/◌, ◌%◌, ◌^◌, ◌<◌, List, Option, Some, None, cond, nat_lt, length, slice_get, slice_index, slice_index_or}
use Rattle.std.specs.Int.{bit_at}

-- by the number of each slot, the list in which it is, or None
abbrev pub Places : Type 0
Places = List (Option ℕ)

-- the slot is in this list
abbrev pub IsIn : Places → ℕ → ℕ → Type 0
IsIn places slot k = slice_get places slot ≡ Some (Some k)

-- the list in whose ring a node is
abbrev pub list_of : Places → ℕ → Option ℕ
list_of places node = cond (nat_lt node (length places)) (slice_index_or places node None) (Some (node - length places))

-- links that are symmetric, and never leave the ring of one list. What is nearer to its head on the way back is older, so each
-- slot of a list is in the ring of its head
pub record AreRings (slots nodes : ℕ) (next prev : ℕ → ℕ) (list : ℕ → Option ℕ) (age : ℕ → ℕ) : Type 0 where
  pub next_within : (i : ℕ) → i < nodes → next i < nodes
  pub prev_within : (i : ℕ) → i < nodes → prev i < nodes
  pub back : (i : ℕ) → i < nodes → prev (next i) ≡ i
  pub forth : (i : ℕ) → i < nodes → next (prev i) ≡ i
  pub one_list : (i : ℕ) → i < nodes → list (next i) ≡ list i
  pub head : (k : ℕ) → list (slots + k) ≡ Some k
  pub alone : (i : ℕ) → i < slots → list i ≡ None → next i ≡ i
  pub older : (i k : ℕ) → i < slots → list i ≡ Some k → prev i < slots → age (prev i) < age i

-- bit k of the words tells whether list k has a slot: whether its head is not a ring alone
abbrev pub TellWhichHaveSlots : ℕ → ℕ → List ℕ → (ℕ → ℕ) → Type 0
TellWhichHaveSlots slots lists words next = (k : ℕ) → k < lists → (bit_at (slice_index words (k / 64)) (k % 64) ≡ 1) ↔ (next (slots + k) ≢ slots + k)

-- the links of slots and heads, and the words, are those of the lists in which the slots are
pub record AreLists (places : Places) (next prev words : List ℕ) (age : ℕ → ℕ) : Type 0 where
  pub few : length places < 2 ^ 32
  pub listed : (slot k : ℕ) → IsIn places slot k → k < 4096
  pub nexts : length next ≡ length places + 4096
  pub prevs : length prev ≡ length places + 4096
  pub all_words : length words ≡ 64
  pub rings : AreRings (length places) (length places + 4096) (slice_index next) (slice_index prev) (list_of places) age
  pub told : TellWhichHaveSlots (length places) 4096 words (slice_index next)
