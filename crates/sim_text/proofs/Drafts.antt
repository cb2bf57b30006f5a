-- The arrivals of a draft.
use Rattle.std.proofs.Common.{◌≡◌, ℕ, List, [], ◌∷◌, ◌++◌, refl, Option, Some, None}
use Rattle.std.specs.Prelude.{IsSome}
use Rattle.outside_ports.specs.declared.port.Arrival.{Arrival}
use Rattle.sim_text.specs.Scenario.{last_moment}

pub last_moment_push : (before : List Arrival) (a : Arrival) → last_moment (before ++ a ∷ []) ≡ a.at
last_moment_push [] a = refl
last_moment_push (b ∷ []) a = refl
last_moment_push (b ∷ (c ∷ rest)) a = last_moment_push (c ∷ rest) a

pub not_some : (o : Option ℕ) → (IsSome o → ⊥) → o ≡ None
not_some None h = refl
not_some (Some n) h = absurd (h refl)
