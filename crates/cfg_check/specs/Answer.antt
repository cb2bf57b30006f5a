-- What `check` gives.
use Rattle.std.specs.Prelude.{◌≡◌, ℕ, Result, Ok, Err}
use Rattle.pv_values.specs.declared.refusal.Place.{Place}
use Rattle.pv_values.specs.declared.refusal.ScriptFault.{ScriptFault}
use Rattle.pv_values.specs.declared.refusal.ScriptFault.TheVariants.{Refused, NoMemory}
use Rattle.cfg_tree.specs.declared.raw.RawScript.{RawScript}
use Rattle.cfg_tree.specs.declared.script.Script.{Script}
use Rattle.cfg_tree.specs.Checks.{IsRefused}

-- a refusal is the first one of the tree
abbrev pub IsRefusalOf : RawScript → ScriptFault → Type 0
IsRefusalOf raw (Refused kind at) = IsRefused raw kind at
IsRefusalOf raw NoMemory = Unit {0}

-- this script is given, or it is out of memory
abbrev pub GivesScript : Script → Result Script ScriptFault → Type 0
GivesScript script (Ok given) = given ≡ script
GivesScript script (Err (Refused kind at)) = ⊥
GivesScript script (Err NoMemory) = Unit {0}

-- some script is given, or it is out of memory
abbrev pub GivesSome : Result Script ScriptFault → Type 0
GivesSome (Ok given) = Unit {0}
GivesSome (Err (Refused kind at)) = ⊥
GivesSome (Err NoMemory) = Unit {0}

-- a refusal of this kind is given, which begins at this byte, or it is out of memory
abbrev pub GivesRefusal : ℕ → Place → Result Script ScriptFault → Type 0
GivesRefusal kind at (Ok given) = ⊥
GivesRefusal kind at (Err (Refused k p)) = (k ≡ kind) × (p.from ≡ at.from)
GivesRefusal kind at (Err NoMemory) = Unit {0}
