-- Which variables a block may assign, and the assignments of others.
use Rattle.std.specs.Prelude.{◌≡◌, ℕ, Bool, true, false, ◌&&◌, if◌then◌else◌, List, [], ◌∷◌, Option, Some, None, codes}
use Rattle.std.specs.Str.{bytes_eq}
use Rattle.pv_values.specs.declared.block.BlockKind.TheVariants.{Request, Branch, Failure, Reply, Event}
use Rattle.pv_values.specs.declared.refusal.Place.{Place}
use Rattle.cfg_tree.specs.declared.token.Variable.{Variable}
use Rattle.cfg_tree.specs.declared.raw.RawVariable.{RawVariable}
use Rattle.cfg_tree.specs.declared.raw.RawScript.{RawScript}
use Rattle.cfg_tree.specs.declared.raw.RouteKind.{RouteKind}
use Rattle.cfg_tree.specs.declared.raw.RouteKind.TheVariants.{Route, Begins}
use Rattle.cfg_laws.specs.Causes.{Assigns, Stands}
use Rattle.cfg_laws.specs.Known.{among, variable_is_known}

-- a request goes on from there: not a reply's block, and no event's
abbrev pub changes_request : RouteKind → Bool
changes_request Route = true
changes_request (Begins Request) = true
changes_request (Begins Branch) = true
changes_request (Begins Failure) = true
changes_request (Begins Reply) = false
changes_request (Begins Event) = false

-- a message is there: not in an event's block
abbrev pub has_message : RouteKind → Bool
has_message Route = true
has_message (Begins Request) = true
has_message (Begins Branch) = true
has_message (Begins Failure) = true
has_message (Begins Reply) = true
has_message (Begins Event) = false

-- those of the target
abbrev pub target_words : List (List ℕ)
target_words = codes "ru" ∷ codes "rU" ∷ codes "rd" ∷ codes "rp" ∷ codes "du" ∷ []

-- those of an item that are assigned: its value, and its life
abbrev pub item_words : List (List ℕ)
item_words = codes "sht" ∷ codes "shtex" ∷ []

abbrev pub word_written : RouteKind → List ℕ → Option (List ℕ) → Bool
word_written kind name None = among name target_words && changes_request kind
word_written kind name (Some inner) =
    if bytes_eq name (codes "var") then true
    else if bytes_eq name (codes "avp") then has_message kind
    else if bytes_eq name (codes "hdr") then false
    else if bytes_eq name (codes "T") then false
    else among name item_words

-- a block of this kind may assign the variable, which has no transformation
abbrev pub form_written : RouteKind → List ℕ → Option (List ℕ) → Option (List ℕ) → Bool
form_written kind name inner None = word_written kind name inner
form_written kind name inner (Some transformation) = false

abbrev pub variable_written : RouteKind → Variable → Bool
variable_written kind v = form_written kind v.name v.inner v.transformation

-- a known variable is assigned here that the block may not assign
pub record AssignsUnwritten (raw : RawScript) (at : Place) : Type 0 where
  pub kind : RouteKind
  pub variable : RawVariable
  pub stands : Stands raw kind (Assigns variable)
  pub known : variable_is_known raw variable.variable ≡ true
  pub unwritten : variable_written kind variable.variable ≡ false
  pub place : at ≡ variable.at
