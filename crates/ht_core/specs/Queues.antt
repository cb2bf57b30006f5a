-- Places that are queued by moments.
use Rattle.std.specs.Prelude.{◌≡◌, ℕ, ◌≤◌, List, Contains}
use Rattle.std.specs.declared.cmp.Ordering.{Ordering}
use Rattle.std.specs.declared.cmp.Reverse.{Reverse}
use Rattle.std.specs.Ordering.{nat_cmp, ordering_then}
use Rattle.ht_core.specs.declared.dues.Due.{Due}

-- what is queued, in no order, and for how many places more there is room
pub record Queue : Type 0 where
  pub places : List Due
  pub spare : ℕ

-- the order in which places come out
abbrev pub earliest_first : Reverse Due → Reverse Due → Ordering
earliest_first x y = ordering_then (nat_cmp y.0.moment x.0.moment) (nat_cmp y.0.place x.0.place)

-- the place is queued at this moment, or before it
pub record IsQueued (places : List Due) (place moment : ℕ) : Type 0 where
  pub due : Due
  pub is_there : Contains places due
  pub is_of_place : due.place ≡ place
  pub in_time : due.moment ≤ moment
