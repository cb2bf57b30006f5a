-- Which variables, transformations and tables are known, in a variable of the script's text and in a text that is expanded.
use Rattle.std.specs.Prelude.{◌≡◌, ◌⊎◌, ℕ, zero, suc, Bool, true, false, ◌&&◌, if◌then◌else◌, List, [], ◌∷◌, Option, Some, None, codes}
use Rattle.std.specs.List.{list_any, list_all}
use Rattle.std.specs.Str.{bytes_eq}
use Rattle.pv_values.specs.Kinds.{ArgForm, Plain, Expanding, ExpandingMaybe, ExpandingTwo, Replying, Counting, TakingText, TakingBlock, TakingPattern, TakingTable, TakingTablePattern, TakingRemovable, Continuing, Logging, row, function_named}
use Rattle.pv_values.specs.declared.refusal.Place.{Place}
use Rattle.pv_values.specs.declared.function_name.FuncName.{FuncName}
use Rattle.cfg_tree.specs.declared.token.Variable.{Variable}
use Rattle.cfg_tree.specs.declared.raw.Word.{Word}
use Rattle.cfg_tree.specs.declared.raw.RawArg.{RawArg}
use Rattle.cfg_tree.specs.declared.raw.RawArg.TheVariants as arg
use Rattle.cfg_tree.specs.declared.raw.RawCall.TheVariants as call
use Rattle.cfg_tree.specs.declared.raw.RawScript.{RawScript}
use Rattle.cfg_tree.specs.declared.raw.RouteKind.{RouteKind}
use Rattle.cfg_tree.specs.Variables.{Piece, Plain as Bytes, Of, pieces_of}
use Rattle.cfg_tree.specs.Names.{some_text, avp_name, table_and_key}
use Rattle.cfg_tree.specs.Functions.{between, number_arg}
use Rattle.cfg_tree.specs.Checks.{known_of}
use Rattle.cfg_laws.specs.Causes.{Leaf, Calls, Reads, Matches, Assigns, Stands}

-- one of these names
abbrev pub among : List ℕ → List (List ℕ) → Bool
among name names = list_any (bytes_eq name) names

-- something is there, of which this holds
abbrev pub there : {A : Type 0} → Option A → (A → Bool) → Bool
there None test = false
there (Some a) test = test a

-- the words that stand without brackets
abbrev pub bare_words : List (List ℕ)
bare_words =
    codes "rc" ∷ codes "retcode" ∷ codes "ru" ∷ codes "rU" ∷ codes "rd" ∷ codes "rp" ∷ codes "du" ∷ codes "fu" ∷ codes "fU" ∷ codes "fd" ∷ codes "ft"
    ∷ codes "tu" ∷ codes "tU" ∷ codes "td" ∷ codes "tt" ∷ codes "ci" ∷ codes "cs" ∷ codes "rm" ∷ codes "si" ∷ codes "sp" ∷ codes "rs" ∷ codes "rr"
    ∷ codes "ua" ∷ codes "null" ∷ []

-- those with TABLE=>KEY in their brackets
abbrev pub table_words : List (List ℕ)
table_words = codes "sht" ∷ codes "shtex" ∷ codes "shtinc" ∷ codes "shtdec" ∷ []

abbrev pub transformation_words : List (List ℕ)
transformation_words = codes "s.len" ∷ codes "s.int" ∷ codes "uri.user" ∷ codes "uri.host" ∷ []

-- what stands in the brackets of a word: a name, and of a table that is there a key whose variables are known
abbrev pub brackets_known : List (List ℕ) → (List ℕ → Bool) → List ℕ → List ℕ → Bool
brackets_known tables known name inner =
    if bytes_eq name (codes "var") then there (some_text inner) (λ n. true)
    else if bytes_eq name (codes "avp") then there (avp_name inner) (λ n. true)
    else if bytes_eq name (codes "hdr") then there (some_text inner) (λ n. true)
    else if bytes_eq name (codes "T") then among inner (codes "id_index" ∷ codes "id_label" ∷ [])
    else among name table_words && there (table_and_key inner) (λ split. among split.0 tables && known split.1)

abbrev pub word_known : List (List ℕ) → (List ℕ → Bool) → List ℕ → Option (List ℕ) → Bool
word_known tables known name None = among name bare_words
word_known tables known name (Some inner) = brackets_known tables known name inner

abbrev pub transformation_known : Option (List ℕ) → Bool
transformation_known None = true
transformation_known (Some name) = among name transformation_words

-- where these texts are known as keys
abbrev pub variable_known : List (List ℕ) → (List ℕ → Bool) → Variable → Bool
variable_known tables known v = word_known tables known v.name v.inner && transformation_known v.transformation

abbrev pub piece_known : List (List ℕ) → (List ℕ → Bool) → Piece → Bool
piece_known tables known (Bytes t) = true
piece_known tables known (Of v) = variable_known tables known v

abbrev pub is_bytes : Piece → Bool
is_bytes (Bytes t) = true
is_bytes (Of v) = false

-- a text in which so many variables, one in the key of another, may be opened
abbrev pub text_known : List (List ℕ) → ℕ → List ℕ → Bool
text_known tables zero text = there (pieces_of text) (list_all is_bytes)
text_known tables (suc room) text = there (pieces_of text) (list_all (piece_known tables (text_known tables room)))

-- ---- where something isn't known

-- at most 32 variables are open at a place: those of a text, and one that stands by itself with those of its key
abbrev pub text_is_known : RawScript → List ℕ → Bool
text_is_known raw = text_known (known_of raw).tables 32

abbrev pub variable_is_known : RawScript → Variable → Bool
variable_is_known raw = variable_known (known_of raw).tables (text_known (known_of raw).tables 31)

-- an expanded argument that isn't known stands here
abbrev pub ArgUnknown : RawScript → Place → RawArg → Type 0
ArgUnknown raw at (arg.String w) = (at ≡ w.at) × (text_is_known raw w.text ≡ false)
ArgUnknown raw at (arg.Number n) = ⊥
ArgUnknown raw at (arg.Variable v) = (at ≡ v.at) × (variable_is_known raw v.variable ≡ false)

-- a string here names a table that isn't there
abbrev pub TableUnknown : RawScript → Place → Word → List ℕ → Type 0
TableUnknown raw at w name = (at ≡ w.at) × (among name (known_of raw).tables ≡ false)

-- arguments of this form, of which something isn't known
abbrev pub FormUnknown : RawScript → Place → ArgForm → List RawArg → Type 0
FormUnknown raw at (Plain f) args = ⊥
FormUnknown raw at (Expanding f) args = (x : RawArg) × (args ≡ x ∷ []) × ArgUnknown raw at x
FormUnknown raw at (ExpandingMaybe f) args = (x : RawArg) × (args ≡ x ∷ []) × ArgUnknown raw at x
FormUnknown raw at (ExpandingTwo f) args = (x : RawArg) × (y : RawArg) × (args ≡ x ∷ y ∷ []) × (ArgUnknown raw at x ⊎ ArgUnknown raw at y)
FormUnknown raw at (Replying make) args =
    (c : RawArg) × (x : RawArg) × (args ≡ c ∷ x ∷ []) × ((code : ℕ) × (between 100 699 (number_arg c) ≡ Some code) × ArgUnknown raw at x)
FormUnknown raw at (Counting make) args = ⊥
FormUnknown raw at (TakingText make) args = ⊥
FormUnknown raw at (TakingBlock kind make) args = ⊥
FormUnknown raw at (TakingPattern make) args = ⊥
FormUnknown raw at (TakingTable make) args = (w : Word) × (args ≡ arg.String w ∷ []) × TableUnknown raw at w w.text
FormUnknown raw at (TakingTablePattern make) args =
    (w : Word) × (args ≡ arg.String w ∷ []) × ((split : List ℕ × List ℕ) × (table_and_key w.text ≡ Some split) × TableUnknown raw at w split.0)
FormUnknown raw at (TakingRemovable make) args = ⊥
FormUnknown raw at (Continuing make) args =
    (i : RawArg) × (l : RawArg) × (w : Word) × (args ≡ i ∷ l ∷ arg.String w ∷ []) × (ArgUnknown raw at i ⊎ ArgUnknown raw at l)
FormUnknown raw at (Logging f) args =
    ((x : RawArg) × (args ≡ x ∷ []) × ArgUnknown raw at x) ⊎ ((level : Word) × (x : RawArg) × (args ≡ arg.String level ∷ x ∷ []) × ArgUnknown raw at x)

-- what stands here, and isn't known: in a call, a variable that is read, or one that is assigned
abbrev pub LeafUnknown : RawScript → Place → Leaf → Type 0
LeafUnknown raw at (Calls (call.Function w args)) = (f : FuncName) × (function_named w.text ≡ Some f) × FormUnknown raw at (row f).form args
LeafUnknown raw at (Calls (call.Route w)) = ⊥
LeafUnknown raw at (Reads v) = (at ≡ v.at) × (variable_is_known raw v.variable ≡ false)
LeafUnknown raw at (Matches w) = ⊥
LeafUnknown raw at (Assigns v) = (at ≡ v.at) × (variable_is_known raw v.variable ≡ false)

-- something that stands in a block isn't known
pub record HasUnknown (raw : RawScript) (at : Place) : Type 0 where
  pub kind : RouteKind
  pub leaf : Leaf
  pub stands : Stands raw kind leaf
  pub unknown : LeafUnknown raw at leaf
