-- What the variables of a script stand for, and the texts that are expanded.
use Rattle.std.specs.Prelude.{ℕ, zero, suc, ◌-◌, ◌==◌, ◌&&◌, List, [], ◌∷◌, ◌++◌, map, length, drop, position, Option, Some, None, if◌then◌else◌, codes}
use Rattle.std.specs.Str.{bytes_eq}
use Rattle.pv_values.specs.declared.refusal.Place.{Place}
use Rattle.pv_values.specs.declared.variable.PvUse.{PvUse}
use Rattle.pv_values.specs.declared.variable.PvUse.TheVariants as pv
use Rattle.pv_values.specs.declared.variable.Transformation.{Transformation}
use Rattle.pv_values.specs.declared.variable.Transformation.TheVariants.{Length, Number, UriUser, UriHost}
use Rattle.cfg_tree.specs.declared.token.Variable.{Variable}
use Rattle.cfg_tree.specs.declared.raw.RouteKind.{RouteKind}
use Rattle.cfg_tree.specs.declared.script.TableUse.{TableUse}
use Rattle.cfg_tree.specs.declared.script.TableUse.TheVariants as table
use Rattle.cfg_tree.specs.declared.script.Part.{Part}
use Rattle.cfg_tree.specs.declared.script.Part.TheOpen.{Part-F}
use Rattle.cfg_tree.specs.declared.script.Part.TheViews.{roll-Part}
use Rattle.cfg_tree.specs.Variables.{Piece, Plain, Of, pieces_of, begins_with}
use Rattle.cfg_tree.specs.Refusals.{Checked, Outcome, accepted, refused, one, both, each, from_some}
use Rattle.cfg_tree.specs.declared.refusal_kind.RefusalKind.TheVariants.{UnknownVariable}
use Rattle.sip_words.specs.ByteNames.{COLON, EQUAL, RAQUOT}
use Rattle.cfg_tree.specs.ByteNames.{LETTER_S}

-- what is known of the whole script: its blocks with their names, in order, and the names of its tables
pub record Known : Type 0 where
  pub blocks : List (RouteKind × Option (List ℕ))
  pub tables : List (List ℕ)

-- the value beside a name in a list
abbrev pub named : {A : Type 0} → List ℕ → List (List ℕ × A) → Option A
named name [] = None
named name (row ∷ rows) = if bytes_eq name row.0 then Some row.1 else named name rows

abbrev pub host_names : List (List ℕ × PvUse)
host_names =
    (codes "ru", pv.RequestUri) ∷ (codes "rU", pv.RequestUser) ∷ (codes "rd", pv.RequestHost) ∷ (codes "rp", pv.RequestPort)
    ∷ (codes "du", pv.DestinationUri)
    ∷ (codes "fu", pv.FromUri) ∷ (codes "fU", pv.FromUser) ∷ (codes "fd", pv.FromHost) ∷ (codes "ft", pv.FromTag)
    ∷ (codes "tu", pv.ToUri) ∷ (codes "tU", pv.ToUser) ∷ (codes "td", pv.ToHost) ∷ (codes "tt", pv.ToTag)
    ∷ (codes "ci", pv.CallId) ∷ (codes "cs", pv.CseqNumber) ∷ (codes "rm", pv.CseqMethod)
    ∷ (codes "si", pv.SourceAddress) ∷ (codes "sp", pv.SourcePort)
    ∷ (codes "rs", pv.ReplyCode) ∷ (codes "rr", pv.ReplyReason) ∷ (codes "ua", pv.UserAgent) ∷ (codes "null", pv.Null) ∷ []

abbrev pub table_names : List (List ℕ × TableUse)
table_names =
    (codes "sht", table.Item) ∷ (codes "shtex", table.Seconds) ∷ (codes "shtinc", table.Increment) ∷ (codes "shtdec", table.Decrement) ∷ []

abbrev pub suspension_names : List (List ℕ × PvUse)
suspension_names = (codes "id_index", pv.IdIndex) ∷ (codes "id_label", pv.IdLabel) ∷ []

abbrev pub transformation_names : List (List ℕ × Transformation)
transformation_names =
    (codes "s.len", Length) ∷ (codes "s.int", Number) ∷ (codes "uri.user", UriUser) ∷ (codes "uri.host", UriHost) ∷ []

-- the number of a name of `$var`: the names are numbered as they are met
abbrev pub var_number : List ℕ → Checked ℕ
var_number name seen = with_place (position (bytes_eq name) seen.vars)
  where
    with_place : Option ℕ → Outcome ℕ
    with_place (Some n) = accepted n seen
    with_place None = accepted (length seen.vars) (record seen { vars = seen.vars ++ name ∷ [] })

-- a text that isn't empty
abbrev pub some_text : List ℕ → Option (List ℕ)
some_text [] = None
some_text (c ∷ cs) = Some (c ∷ cs)

-- the name of an AVP: `s:` before it says nothing
abbrev pub avp_name : List ℕ → Option (List ℕ)
avp_name inner = if begins_with LETTER_S inner && begins_with COLON (drop 1 inner) then some_text (drop 2 inner) else some_text inner

-- TABLE=>KEY
abbrev pub table_and_key : List ℕ → Option (List ℕ × List ℕ)
table_and_key [] = None
table_and_key (c ∷ cs) = if (c == EQUAL) && begins_with RAQUOT cs then Some ([], drop 1 cs) else put_before c (table_and_key cs)
  where
    put_before : ℕ → Option (List ℕ × List ℕ) → Option (List ℕ × List ℕ)
    put_before c None = None
    put_before c (Some (front, back)) = Some (c ∷ front, back)

-- a variable as one layer of its tree
abbrev pub Layer : Type 0
Layer = Part-F Part

abbrev pub host_layer : PvUse → Checked Layer
host_layer x = accepted (Part-F.Host x)

-- a variable with an item of a table, whose key is expanded
abbrev pub item_layer : Known → (List ℕ → Checked (List Part)) → Place → TableUse → List ℕ → Checked Layer
item_layer known expand at way inner =
    from_some (table_and_key inner) UnknownVariable at (λ split. from_some (position (bytes_eq split.0) known.tables) UnknownVariable at (λ t.
    one (λ key. Part-F.Item way t key) (expand split.1)))

-- a variable without brackets, and with them
abbrev pub bare_layer : Place → List ℕ → Checked Layer
bare_layer at name =
    if bytes_eq name (codes "rc") then accepted Part-F.Code
    else if bytes_eq name (codes "retcode") then accepted Part-F.Code
    else from_some (named name host_names) UnknownVariable at host_layer

abbrev pub inner_layer : Known → (List ℕ → Checked (List Part)) → Place → List ℕ → List ℕ → Checked Layer
inner_layer known expand at name inner =
    if bytes_eq name (codes "var") then from_some (some_text inner) UnknownVariable at (λ n. one (λ x. Part-F.Var x) (var_number n))
    else if bytes_eq name (codes "avp") then from_some (avp_name inner) UnknownVariable at (λ n. host_layer (pv.Avp n))
    else if bytes_eq name (codes "hdr") then from_some (some_text inner) UnknownVariable at (λ n. host_layer (pv.Header n))
    else if bytes_eq name (codes "T") then from_some (named inner suspension_names) UnknownVariable at host_layer
    else from_some (named name table_names) UnknownVariable at (λ way. item_layer known expand at way inner)

abbrev pub untransformed : Known → (List ℕ → Checked (List Part)) → Place → Variable → Option (List ℕ) → Checked Layer
untransformed known expand at v None = bare_layer at v.name
untransformed known expand at v (Some inner) = inner_layer known expand at v.name inner

abbrev pub transformed_layer : Place → Checked Layer → Option (List ℕ) → Checked Layer
transformed_layer at layer None = layer
transformed_layer at layer (Some name) =
    both (λ p tr. Part-F.Transformed tr (roll-Part p)) layer (from_some (named name transformation_names) UnknownVariable at accepted)

-- what a variable stands for; an unknown one, also inside its key, is refused at this place
abbrev pub layer_by : Known → (List ℕ → Checked (List Part)) → Place → Variable → Checked Layer
layer_by known expand at v = transformed_layer at (untransformed known expand at v v.inner) v.transformation

abbrev pub piece_part : Known → (List ℕ → Checked (List Part)) → Place → Piece → Checked Part
piece_part known expand at (Plain t) = accepted (roll-Part (Part-F.Text t))
piece_part known expand at (Of v) = one roll-Part (layer_by known expand at v)

-- a piece where no variable may be opened any more
abbrev pub plain_part : Place → Piece → Checked Part
plain_part at (Plain t) = accepted (roll-Part (Part-F.Text t))
plain_part at (Of v) = refused UnknownVariable at

-- the parts of a text where so many variables, one in the key of another, may still be opened
unfoldable pub expansion_within : ℕ → Known → Place → List ℕ → Checked (List Part)
expansion_within zero known at text = from_some (pieces_of text) UnknownVariable at (λ pieces. each (map (plain_part at) pieces))
expansion_within (suc depth) known at text =
    from_some (pieces_of text) UnknownVariable at (λ pieces. each (map (piece_part known (expansion_within depth known at) at) pieces))

-- at most so many variables are open at a place of a text
abbrev pub max_nested : ℕ
max_nested = 32

abbrev pub expansion : Known → Place → List ℕ → Checked (List Part)
expansion known at text = expansion_within max_nested known at text

-- a variable of the script's text, which is open in its own key
abbrev pub layer_of : Known → Place → Variable → Checked Layer
layer_of known at v = layer_by known (expansion_within (max_nested - 1) known at) at v

abbrev pub part_of : Known → Place → Variable → Checked Part
part_of known at v = one roll-Part (layer_of known at v)
