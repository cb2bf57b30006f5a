-- A variable that is read without a refusal is there.
use Rattle.std.proofs.Common.{ℕ, zero, suc, ◌-◌, List, [], ◌∷◌, ◌++◌, length, Option, Some, None}
use Rattle.std.specs.Prelude.{position, codes}
use Rattle.std.specs.Str.{bytes_eq}
use Rattle.pv_values.specs.declared.refusal.Place.{Place}
use Rattle.pv_values.specs.declared.variable.PvUse.{PvUse}
use Rattle.pv_values.specs.declared.variable.PvUse.TheVariants as pv
use Rattle.cfg_tree.specs.declared.token.Variable.{Variable}
use Rattle.cfg_tree.specs.declared.script.TableUse.{TableUse}
use Rattle.cfg_tree.specs.declared.script.Part.{Part}
use Rattle.cfg_tree.specs.declared.script.Part.TheOpen.{Part-F}
use Rattle.cfg_tree.specs.declared.script.Part.TheViews.{roll-Part}
use Rattle.cfg_tree.specs.Variables.{Piece, Plain, Of, pieces_of}
use Rattle.cfg_tree.specs.Names.{Known, named, host_names, table_names, suspension_names, transformation_names, var_number, some_text, avp_name, table_and_key, Layer, host_layer, item_layer, bare_layer, inner_layer, untransformed, transformed_layer, layer_by, piece_part, plain_part, expansion_within, max_nested, expansion, layer_of, part_of}
use Rattle.cfg_tree.specs.Refusals.{Seen, Outcome, Checked, accepted, from_some}
use Rattle.cfg_calls.proofs.Valued.{Stands, Valued, accepted_stands, accepted_valued, refused_valued, one_valued, both_valued, map_valued, from_some_valued, if_valued}
use Rattle.cfg_tree.specs.declared.refusal_kind.RefusalKind.TheVariants.{UnknownVariable}

-- the number of a name, by its place
placed : List ℕ → Seen → Option ℕ → Outcome ℕ
placed name seen (Some n) = accepted n seen
placed name seen None = accepted (length seen.vars) (record seen { vars = seen.vars ++ name ∷ [] })

placed_stands : (name : List ℕ) (s : Seen) (o : Option ℕ) → Stands (placed name s o)
unfolding placed
placed_stands name s (Some n) = accepted_stands n s
placed_stands name s None = accepted_stands (length s.vars) (record s { vars = s.vars ++ name ∷ [] })

var_number_valued : (name : List ℕ) → Valued (var_number name)
unfolding placed
var_number_valued name = record { after = λ s. placed_stands name s (position (bytes_eq name) s.vars) }

host_valued : (x : PvUse) → Valued (host_layer x)
host_valued x = accepted_valued (Part-F.Host x)

-- what each key of a table is read as
abbrev Expands : (List ℕ → Checked (List Part)) → Type 0
Expands expand = (text : List ℕ) → Valued (expand text)

item_valued : (known : Known) (expand : List ℕ → Checked (List Part)) → Expands expand → (at : Place) (way : TableUse) (inner : List ℕ) → Valued (item_layer known expand at way inner)
item_valued known expand ex at way inner = from_some_valued (table_and_key inner) UnknownVariable at _ (λ split.
    from_some_valued (position (bytes_eq split.0) known.tables) UnknownVariable at _ (λ t. one_valued (λ key. Part-F.Item way t key) (expand split.1) (ex split.1)))

bare_valued : (at : Place) (name : List ℕ) → Valued (bare_layer at name)
bare_valued at name =
    if_valued (bytes_eq name (codes "rc")) _ _ (accepted_valued Part-F.Code) (if_valued (bytes_eq name (codes "retcode")) _ _ (accepted_valued Part-F.Code)
    (from_some_valued (named name host_names) UnknownVariable at host_layer host_valued))

inner_valued : (known : Known) (expand : List ℕ → Checked (List Part)) → Expands expand → (at : Place) (name inner : List ℕ) → Valued (inner_layer known expand at name inner)
inner_valued known expand ex at name inner =
    if_valued (bytes_eq name (codes "var")) _ _ (from_some_valued (some_text inner) UnknownVariable at _ (λ n. one_valued (λ x. Part-F.Var x) (var_number n) (var_number_valued n)))
    (if_valued (bytes_eq name (codes "avp")) _ _ (from_some_valued (avp_name inner) UnknownVariable at _ (λ n. host_valued (pv.Avp n)))
    (if_valued (bytes_eq name (codes "hdr")) _ _ (from_some_valued (some_text inner) UnknownVariable at _ (λ n. host_valued (pv.Header n)))
    (if_valued (bytes_eq name (codes "T")) _ _ (from_some_valued (named inner suspension_names) UnknownVariable at host_layer host_valued)
    (from_some_valued (named name table_names) UnknownVariable at _ (λ way. item_valued known expand ex at way inner)))))

untransformed_valued : (known : Known) (expand : List ℕ → Checked (List Part)) → Expands expand → (at : Place) (v : Variable) (o : Option (List ℕ)) → Valued (untransformed known expand at v o)
untransformed_valued known expand ex at v None = bare_valued at v.name
untransformed_valued known expand ex at v (Some inner) = inner_valued known expand ex at v.name inner

transformed_valued : (at : Place) (layer : Checked Layer) → Valued layer → (o : Option (List ℕ)) → Valued (transformed_layer at layer o)
transformed_valued at layer vl None = vl
transformed_valued at layer vl (Some name) =
    both_valued (λ p tr. Part-F.Transformed tr (roll-Part p)) layer (from_some (named name transformation_names) UnknownVariable at accepted) vl
    (from_some_valued (named name transformation_names) UnknownVariable at accepted accepted_valued)

layer_by_valued : (known : Known) (expand : List ℕ → Checked (List Part)) → Expands expand → (at : Place) (v : Variable) → Valued (layer_by known expand at v)
layer_by_valued known expand ex at v = transformed_valued at (untransformed known expand at v v.inner) (untransformed_valued known expand ex at v v.inner) v.transformation

piece_valued : (known : Known) (expand : List ℕ → Checked (List Part)) → Expands expand → (at : Place) (p : Piece) → Valued (piece_part known expand at p)
piece_valued known expand ex at (Plain t) = accepted_valued (roll-Part (Part-F.Text t))
piece_valued known expand ex at (Of v) = one_valued roll-Part (layer_by known expand at v) (layer_by_valued known expand ex at v)

plain_valued : (at : Place) (p : Piece) → Valued (plain_part at p)
plain_valued at (Plain t) = accepted_valued (roll-Part (Part-F.Text t))
plain_valued at (Of v) = refused_valued UnknownVariable at

expansion_within_valued : (depth : ℕ) (known : Known) (at : Place) (text : List ℕ) → Valued (expansion_within depth known at text)
unfolding expansion_within
expansion_within_valued zero known at text = from_some_valued (pieces_of text) UnknownVariable at _ (λ pieces. map_valued (plain_part at) (plain_valued at) pieces)
expansion_within_valued (suc depth) known at text = from_some_valued (pieces_of text) UnknownVariable at _ (λ pieces.
    map_valued (piece_part known (expansion_within depth known at) at)
    (piece_valued known (expansion_within depth known at) (expansion_within_valued depth known at) at) pieces)

pub expansion_valued : (known : Known) (at : Place) (text : List ℕ) → Valued (expansion known at text)
expansion_valued known at text = expansion_within_valued max_nested known at text

pub layer_of_valued : (known : Known) (at : Place) (v : Variable) → Valued (layer_of known at v)
layer_of_valued known at v = layer_by_valued known (expansion_within (max_nested - 1) known at) (expansion_within_valued (max_nested - 1) known at) at v

pub part_of_valued : (known : Known) (at : Place) (v : Variable) → Valued (part_of known at v)
part_of_valued known at v = one_valued roll-Part (layer_of known at v) (layer_of_valued known at v)
