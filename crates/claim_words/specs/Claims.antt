-- The rule of a table of words, of which each stands for the suspensions of a slot: what each seat knows, and what each step tells.
use Rattle.std.specs.Prelude.{◌≡◌, ℕ, suc, ◌+◌, ◌-◌, ◌<◌, ◌≤◌, ◌⊎◌, cond, ◌==◌, List, [], ◌∷◌, ◌++◌, length, slice_index, max}
use mathlib.Core.Option.{some}
use mathlib.Core.List.{IsPrefix}
use lib.ListN.{get_elem?}
use Rattle.histories.specs.Records.{recorded}
use Rattle.atomic_table.specs.Table.{State, Me, Step}
use Rattle.atomic_table.specs.Seated.{TableId}
use Rattle.atomic_table.specs.declared.shared.Seat.{Seat}
use Rattle.claim_words.specs.Lists.{nth_list, with_nth_list, longer_lists}
use Rattle.claim_words.specs.declared.By.{By}
use Rattle.claim_words.specs.declared.ClaimEnd.{ClaimEnd}
use Rattle.claim_words.specs.declared.ClaimEnd.TheVariants.{Unknown}
use Rattle.claim_words.specs.declared.ClaimRecord.{ClaimRecord}
use Rattle.claim_words.specs.declared.ClaimRecord.TheVariants.{Opened, Claimed}
use Rattle.claim_words.specs.declared.view.SeatKind.{SeatKind}
use Rattle.claim_words.specs.declared.view.SeatKind.TheVariants.{Spent, Maker, Desk, Note}
use Rattle.claim_words.specs.declared.view.Clerk.{Clerk}
use Rattle.claim_words.specs.Suspensions.{ClaimEntry, suspensions, IsClaimHistory, claim_end}
use Rattle.claim_words.specs.Words.{word_of, end_by_word}

-- Who made a record of slot k: the pass of the worker who claimed, or the slot's Opener, whose number comes after those of the passes
abbrev pub maker_of : ℕ → ℕ → ℕ → ClaimRecord → ℕ
maker_of workers k worker (Opened serial) = workers + k
maker_of workers k worker (Claimed serial by end) = worker

abbrev pub author : ℕ → ℕ → ClaimEntry → ℕ
author workers k e = maker_of workers k e.by e.what

-- the records of slot k that number n made
abbrev pub made_by : ℕ → ℕ → ℕ → List ClaimEntry → List ClaimEntry
made_by workers n k [] = []
made_by workers n k (e ∷ es) = cond (author workers k e == n) (e ∷ made_by workers n k es) (made_by workers n k es)

-- the records of slot k in an own list
abbrev pub of_slot : ℕ → List (ℕ × ClaimEntry) → List ClaimEntry
of_slot k [] = []
of_slot k (x ∷ xs) = cond (x.0 == k) (x.1 ∷ of_slot k xs) (of_slot k xs)

abbrev pub WordsState : Type 0
WordsState = State (Unit {0}) Clerk

abbrev pub SeatMe : Type 0
SeatMe = Me (Unit {0}) Clerk

-- the seat i was taken in by another
abbrev pub IsTakenIn : WordsState → ℕ → Type 0
IsTakenIn s i = (u : Clerk) × (get_elem? s.views i ≡ some u) × (u.kind ≡ Spent)

-- What the seat j knows, where the histories are hs, owner n is the seat of number n, and the numbers below `made` were made
pub record ClerkKnows (workers slots made : ℕ) (hs : ℕ → List ClaimEntry) (owner : ℕ → ℕ) (s : WordsState) (j : ℕ) (v : Clerk) : Type 0 where
  pub right : v.kind ≡ Desk → (owner v.number ≡ j) × (v.number < made) × ((k : ℕ) → made_by workers v.number k (hs k) ≡ of_slot k v.mine)
  pub newest : v.kind ≡ Desk → (k : ℕ) → v.number ≡ workers + k → k < slots → (length (suspensions (hs k)) ≡ v.last) × (v.floor ≤ v.last) × (v.slot ≡ k)
  pub makes : v.kind ≡ Maker → (j ≡ 0) × (v.number ≡ made) × (v.slot ≡ workers)
  pub seen : (k : ℕ) → IsPrefix (nth_list v.seen k) (hs k)
  pub has : (i : ℕ) (l : List (ℕ × ClaimEntry)) → get_elem? v.got i ≡ some l → IsTakenIn s (owner (suc i)) × (suc i < made) × ((k : ℕ) → made_by workers (suc i) k (hs k) ≡ of_slot k l)

-- some pass or Opener has seen the whole history h of slot k
abbrev pub IsSeenWhole : List Clerk → ℕ → List ClaimEntry → Type 0
IsSeenWhole views k h = (j : ℕ) × (v : Clerk) × (get_elem? views j ≡ some v) × (v.kind ≡ Desk) × (nth_list v.seen k ≡ h)

pub record IsSlotWord (top word : ℕ) (h : List ClaimEntry) : Type 0 where
  pub is : word ≡ word_of (suspensions h)
  pub legal : IsClaimHistory h
  pub short : length (suspensions h) ≤ top

pub record ClaimsKept (top : ℕ) (key : ℕ × ℕ) (s : WordsState) : Type 0 where
  pub hs : ℕ → List ClaimEntry
  pub owner : ℕ → ℕ
  pub made : ℕ
  pub wide : length s.words ≡ key.0
  pub words : (k : ℕ) → k < key.0 → IsSlotWord top (slice_index s.words k) (hs k)
  pub views : (j : ℕ) (v : Clerk) → get_elem? s.views j ≡ some v → ClerkKnows key.1 key.0 made hs owner s j v
  pub nobody : (n k : ℕ) → made ≤ n → made_by key.1 n k (hs k) ≡ []
  pub few : made ≤ key.1 + key.0
  pub known : (k : ℕ) → (hs k ≡ []) ⊎ IsSeenWhole s.views k (hs k)

-- after a record of its own, which came after the history h
abbrev pub acted : Clerk → ℕ → ℕ → List ClaimEntry → ClaimEntry → Clerk
acted v last k h e = record v { last = last; seen = with_nth_list v.seen k (h ++ e ∷ []); mine = v.mine ++ (k, e) ∷ [] }

-- Number j claimed a serial of slot k. The claim came after a history that begins with what had been seen, and the answer is right there
pub record HasClaimed (k j s : ℕ) (by : By) (v : Clerk) (end : ClaimEnd) (w : Clerk) : Type 0 where
  pub history : List ClaimEntry
  pub begins : IsPrefix (nth_list v.seen k) history
  pub legal : IsClaimHistory history
  pub right : end ≡ claim_end (suspensions history) s
  pub view : w ≡ acted v v.last k history (recorded j (Claimed s by end))

-- The serial `last + 1` of slot k was opened for a worker, where the slot had `last` before
pub record HasOpened (k worker last : ℕ) (v w : Clerk) : Type 0 where
  pub history : List ClaimEntry
  pub begins : IsPrefix (nth_list v.seen k) history
  pub legal : IsClaimHistory history
  pub right : length (suspensions history) ≡ last
  pub view : w ≡ acted v (last + 1) k history (recorded worker (Opened (last + 1)))

abbrev pub TellsOpened : ℕ → ℕ → Step (Unit {0}) → SeatMe → ℕ → SeatMe → Type 0
TellsOpened last worker st m r m' = HasOpened st.word worker last m.0 m'.0 × (m'.1 ≡ m.1)

abbrev pub TellsClaimed : ℕ → ℕ → By → Step (Unit {0}) → SeatMe → ℕ → SeatMe → Type 0
TellsClaimed j s by st m r m' = HasClaimed st.word j s by m.0 (end_by_word r s) m'.0 × (m'.1 ≡ m.1)

-- a claim that none can win
abbrev pub TellsMissed : ℕ → ℕ → By → Step (Unit {0}) → SeatMe → ℕ → SeatMe → Type 0
TellsMissed j s by st m r m' = HasClaimed st.word j s by m.0 Unknown m'.0 × (m'.1 ≡ m.1)

-- an Opener's last serial is not below any of which it was told
abbrev pub TellsNewest : Step (Unit {0}) → SeatMe → ℕ → SeatMe → Type 0
TellsNewest st m r m' = (m' ≡ m) × (m.0.floor ≤ m.0.last)

abbrev pub spent_clerk : Clerk
spent_clerk = record { kind = Spent; number = 0; last = 0; floor = 0; slot = 0; seen = []; mine = []; got = [] }

-- what makes the passes and Openers, after it made so many
abbrev pub maker : ℕ → ℕ → Clerk
maker workers made = record { kind = Maker; number = made; last = 0; floor = 0; slot = workers; seen = []; mine = []; got = [] }

abbrev pub desk : ℕ → ℕ → Clerk
desk n k = record { kind = Desk; number = n; last = 0; floor = 0; slot = k; seen = []; mine = []; got = [] }

-- the maker, after it made one more number, and the new seat
abbrev pub dealt : Clerk → Clerk
dealt v = record v { number = v.number + 1 }

abbrev pub fresh_desk : Clerk → Clerk
fresh_desk v = desk v.number (v.number - v.slot)

-- a note of what a pass has seen
abbrev pub note_of : Clerk → Clerk
note_of v = record { kind = Note; number = 0; last = 0; floor = 0; slot = 0; seen = v.seen; mine = []; got = [] }

-- a pass that took in the next number
abbrev pub joined_desks : Clerk → Clerk → Clerk
joined_desks v w = record v { seen = longer_lists v.seen w.seen; got = v.got ++ w.mine ∷ [] }

-- an Opener that took in a note
abbrev pub met : Clerk → Clerk → Clerk
met v w = record v { seen = longer_lists v.seen w.seen; floor = max v.floor (length (suspensions (nth_list w.seen v.slot))) }

abbrev pub ClaimSeat : Type 0
ClaimSeat = Seat (Unit {0}) Clerk

-- the seat is one of this table, and its number is n
abbrev pub IsDesk : TableId → ℕ → ClaimSeat → Type 0
IsDesk z n p = (p.table_id ≡ z) × (p.me.1 ≡ []) × (p.me.0.kind ≡ Desk) × (p.me.0.number ≡ n)

-- each has the number of its place, from `from` on
abbrev pub AreNumbered : {A : Type 0} → (A → ClaimSeat) → TableId → ℕ → List A → Type 0
AreNumbered {A} seat z from ps = (i : ℕ) (p : A) → get_elem? ps i ≡ some p → IsDesk z (from + i) (seat p)

-- The histories at the end are whole: the records of each slot are those of the own lists, of the passes and then of the Openers
pub record ClaimsClosed (workers slots : ℕ) (v : Clerk) : Type 0 where
  pub legal : (k : ℕ) → k < slots → IsClaimHistory (nth_list v.seen k)
  pub lists : (n k : ℕ) → made_by workers n k (nth_list v.seen k) ≡ of_slot k (nth_list (v.mine ∷ v.got) n)
