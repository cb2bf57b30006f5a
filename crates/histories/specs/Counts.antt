-- Counts that never fall. One that is kept in a u64 stands still at the greatest u64.
use Rattle.std.specs.Prelude.{◌≡◌, ℕ, ◌+◌, ◌-◌, ◌^◌, ◌≤◌, ◌⊎◌, min}

abbrev pub greatest : ℕ
greatest = 2 ^ 64 - 1

-- a count in a u64 after one more
abbrev pub one_more : ℕ → ℕ
one_more count = min (count + 1) greatest

-- the count rose in one call, or stands at the greatest u64
abbrev pub Rises : ℕ → ℕ → Type 0
Rises old new = (old + 1 ≤ new) ⊎ (new ≡ greatest)

-- the count rose by at least n in several calls, or stands there
abbrev pub Rose : ℕ → ℕ → ℕ → Type 0
Rose n old new = (old + n ≤ new) ⊎ (greatest ≤ new)
