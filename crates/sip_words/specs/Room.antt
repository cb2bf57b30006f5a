-- A text that is written piece by piece into a room.
use Rattle.std.specs.Prelude.{◌≡◌, ℕ, ◌-◌, ◌^◌, ◌≤◌, List, ◌++◌, length, drop, min}

-- the text is counted, as far as the count goes, and stands in front where the room is enough for it
pub record IsWrittenSoFar (room out : List ℕ) (len : ℕ) (text : List ℕ) : Type 0 where
  pub same_room : length out ≡ length room
  pub count : len ≡ min (length text) (2 ^ 64 - 1)
  pub bytes : length text ≤ length room → out ≡ text ++ drop (length text) room
