-- What the text of a script is: accepted as a script, or refused with a kind at a place.
use Rattle.std.specs.Prelude.{◌≡◌, ◌≢◌, ℕ, ◌⊎◌, List, length, Result, Ok, Err}
use Rattle.pv_values.specs.declared.refusal.Place.{Place}
use Rattle.pv_values.specs.declared.refusal.ScriptFault.{ScriptFault}
use Rattle.pv_values.specs.declared.refusal.ScriptFault.TheVariants as fault
use Rattle.cfg_tree.specs.declared.token.Token.{Token}
use Rattle.cfg_tree.specs.declared.script.Script.{Script}
use Rattle.cfg_tree.specs.declared.refusal_kind.RefusalKind.TheVariants.{Syntax}
use Rattle.cfg_tree.specs.RefusalKinds.{refusal_number}
use Rattle.cfg_tree.specs.Checks.{Accepted, Refused}
use Rattle.cfg_lex.specs.Tokens.{TokensOf, FaultOf}

-- the text has tokens, which are accepted as this script
abbrev pub AcceptsText : List ℕ → Script → Type 0
AcceptsText text script = (tokens : List Token) × TokensOf text tokens × Accepted tokens (length text) script

-- this is the first fault of the text, or the text has tokens, which are refused so. Of Syntax the place isn't said.
abbrev pub RefusesText : List ℕ → ℕ → Place → Type 0
RefusesText text kind at =
    FaultOf text (fault.Refused kind at) ⊎ ((tokens : List Token) × TokensOf text tokens × Refused tokens (length text) kind at)

-- a refusal that is given is one of the text
abbrev pub IsTextRefusal : List ℕ → ScriptFault → Type 0
IsTextRefusal text (fault.Refused kind at) = RefusesText text kind at
IsTextRefusal text fault.NoMemory = Unit {0}

-- a refusal of this kind is given, and one that isn't Syntax begins at this byte; or it is out of memory
abbrev pub GivesTextRefusal : ℕ → Place → Result Script ScriptFault → Type 0
GivesTextRefusal kind at (Ok script) = ⊥
GivesTextRefusal kind at (Err (fault.Refused k p)) = (k ≡ kind) × (kind ≢ refusal_number Syntax → p.from ≡ at.from)
GivesTextRefusal kind at (Err fault.NoMemory) = Unit {0}
