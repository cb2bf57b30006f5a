-- The rule of a room: each slot has an empty Vec with room for n values.
use Rattle.std.specs.Prelude.{◌≡◌, ℕ, ◌<◌, ◌≤◌, [], length}
use Rattle.std.specs.Global.{Vec}
use Rattle.std.specs.Vec.{vec_capacity}
use mathlib.Core.Option.{some}
use lib.ListN.{get_elem?}
use Rattle.atomic_table.specs.Table.{State}

abbrev pub HasRoom : {T V : Type 0} → ℕ → State (Vec T) V → Type 0
HasRoom {T} n s = (k : ℕ) → k < length s.homes → (v : Vec T) × (get_elem? s.homes k ≡ some (some v)) × (v.items ≡ []) × (n ≤ vec_capacity v)
