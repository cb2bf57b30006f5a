-- What is said of edits that are made one after another until one doesn't fit.
use Rattle.std.specs.Prelude.{◌≡◌, Bool, true, List, [], ◌∷◌, ◌++◌, if◌then◌else◌}
use Rattle.msg_edits.specs.declared.parts.Edit.{Edit}
use Rattle.host_meaning.specs.Headers.{fits, all_fit}

-- the old edits stand before whatever was made
abbrev pub GoesOn : List Edit → List Edit → Type 0
GoesOn old new = (some : List Edit) × (new ≡ old ++ some)

-- whether the edit fits is told; where it does it is made, and else nothing is
pub record MakesOne (old : List Edit) (e : Edit) (new : List Edit) (done : Bool) : Type 0 where
  pub fit : fits old e ≡ done
  pub made : new ≡ (if done then old ++ e ∷ [] else old)

-- whether all of these edits fit is told; where they do they are made, and else the old ones stand before what was made
pub record Makes (old more new : List Edit) (done : Bool) : Type 0 where
  pub fit : all_fit old more ≡ done
  pub made : done ≡ true → new ≡ old ++ more
  pub goes_on : GoesOn old new
