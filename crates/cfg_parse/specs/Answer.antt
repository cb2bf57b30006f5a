-- What `parse` gives.
use Rattle.std.specs.Prelude.{◌≡◌, ℕ, List, Result, Ok, Err}
use Rattle.pv_values.specs.declared.refusal.ScriptFault.{ScriptFault}
use Rattle.pv_values.specs.declared.refusal.ScriptFault.TheVariants.{Refused, NoMemory}
use Rattle.cfg_tree.specs.declared.token.Token.{Token}
use Rattle.cfg_tree.specs.declared.raw.RawScript.{RawScript}
use Rattle.cfg_tree.specs.declared.refusal_kind.RefusalKind.TheVariants.{Syntax}
use Rattle.cfg_tree.specs.RefusalKinds.{refusal_number}
use Rattle.cfg_tree.specs.Checks.{IsTreeOf, IsUnderivable}

-- no other tree is derived
abbrev pub IsTheOnly : List Token → ℕ → RawScript → Type 0
IsTheOnly tokens end raw = (other : RawScript) → IsTreeOf tokens end other → other ≡ raw

-- a refusal is Syntax, and no tree is derived
abbrev pub IsSyntaxOf : List Token → ℕ → ScriptFault → Type 0
IsSyntaxOf tokens end (Refused kind at) = (kind ≡ refusal_number Syntax) × IsUnderivable tokens end
IsSyntaxOf tokens end NoMemory = Unit {0}

-- this tree is given, or it is out of memory
abbrev pub GivesTree : RawScript → Result RawScript ScriptFault → Type 0
GivesTree raw (Ok given) = given ≡ raw
GivesTree raw (Err (Refused kind at)) = ⊥
GivesTree raw (Err NoMemory) = Unit {0}

-- no tree is given, but Syntax, or it is out of memory
abbrev pub GivesNone : Result RawScript ScriptFault → Type 0
GivesNone (Ok given) = ⊥
GivesNone (Err (Refused kind at)) = kind ≡ refusal_number Syntax
GivesNone (Err NoMemory) = Unit {0}
