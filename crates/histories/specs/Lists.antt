-- Lists that an object tells, or no longer tells, and that grow.
use Rattle.std.specs.Prelude.{◌≡◌, List, ◌++◌, Option, Some, IfSome, IsSomeAnd}

-- where the list is still told, it grew by these items at its end
abbrev pub Grows : {A : Type 0} → Option (List A) → Option (List A) → List A → Type 0
Grows old new items = IfSome new (λ after. IsSomeAnd old (λ before. after ≡ before ++ items))

-- where it is still told, it is what it was
abbrev pub Keeps : {A : Type 0} → Option A → Option A → Type 0
Keeps old new = IfSome new (λ after. old ≡ Some after)
