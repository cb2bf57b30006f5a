-- What a part of the checking leaves: it follows a check, from what was met and refused before it.
use Rattle.std.specs.Prelude.{◌≡◌, ◌+◌, Bool, true, false, not, nat_le, List, [], ◌∷◌, ◌++◌, Option, None, if◌then◌else◌}
use Rattle.pv_values.specs.declared.refusal.Place.{Place}
use Rattle.cfg_tree.specs.Refusals.{Refusal, refusal, Seen, Checked}
use Rattle.cfg_tree.specs.declared.refusal_kind.RefusalKind.TheVariants.{TooLarge}

-- what was refused so far, and what was met, in the order of the text
pub record CheckState : Type 0 where
  pub refusals : List Refusal
  pub seen : Seen

-- from the one state to the other this value was read, as the check reads it
pub record Follows {A : Type 0} (check : Checked A) (old : CheckState) (value : Option A) (new : CheckState) : Type 0 where
  pub value_is : value ≡ (check old.seen).value
  pub refusals_are : new.refusals ≡ old.refusals ++ (check old.seen).refusals
  pub seen_is : new.seen ≡ (check old.seen).seen

-- one more statement was counted; it is refused where there are 50,000 already
abbrev pub Counts : Place → CheckState → Bool → CheckState → Type 0
Counts at old within new =
    (within ≡ not (nat_le 50000 old.seen.statements))
    × (new.seen ≡ record old.seen { statements = old.seen.statements + 1 })
    × (new.refusals ≡ old.refusals ++ (if within then [] else refusal TooLarge at ∷ []))

-- a value that isn't there where it is one too many
abbrev pub within_limit : {A : Type 0} → Bool → Option A → Option A
within_limit true value = value
within_limit false value = None
