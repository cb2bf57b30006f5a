-- What a call sets, and what it leaves.
use Rattle.std.specs.Prelude.{◌≡◌, Bool, true, false, Option, Some, None}

-- whether something is set, and what is there then: this, and without it what was there before
abbrev pub Sets : {A : Type 0} → Option A → A → Bool → A → Type 0
Sets None old accepted new = (accepted ≡ false) × (new ≡ old)
Sets (Some set) old accepted new = (accepted ≡ true) × (new ≡ set)
