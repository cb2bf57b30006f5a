-- Of a variable or an expanded text no refusal is read but UnknownVariable.
use Rattle.std.proofs.Common.{◌≡◌, ℕ, zero, suc, ◌-◌, List, [], ◌∷◌, ◌++◌, length, Option, Some, None}
use Rattle.std.specs.Prelude.{position, codes}
use Rattle.std.specs.Fmt.{signed_decimal}
use Rattle.std.specs.Str.{bytes_eq}
use Rattle.pv_values.specs.declared.refusal.Place.{Place}
use Rattle.pv_values.specs.declared.variable.PvUse.{PvUse}
use Rattle.pv_values.specs.declared.variable.PvUse.TheVariants as pv
use Rattle.cfg_tree.specs.declared.token.Variable.{Variable}
use Rattle.cfg_tree.specs.declared.raw.RawArg.{RawArg}
use Rattle.cfg_tree.specs.declared.raw.RawArg.TheVariants as arg
use Rattle.cfg_tree.specs.declared.script.TableUse.{TableUse}
use Rattle.cfg_tree.specs.declared.script.Part.{Part}
use Rattle.cfg_tree.specs.declared.script.Part.TheOpen.{Part-F}
use Rattle.cfg_tree.specs.declared.script.Part.TheViews.{roll-Part}
use Rattle.cfg_tree.specs.Variables.{Piece, Plain, Of, pieces_of}
use Rattle.cfg_tree.specs.Names.{Known, named, host_names, table_names, suspension_names, transformation_names, var_number, some_text, avp_name, table_and_key, Layer, host_layer, item_layer, bare_layer, inner_layer, untransformed, transformed_layer, layer_by, piece_part, plain_part, expansion_within, max_nested, expansion, layer_of, part_of}
use Rattle.cfg_tree.specs.Functions.{table_number, expanded_arg}
use Rattle.cfg_tree.specs.Refusals.{Refusal, refusal, Seen, Outcome, Checked, accepted, from_some}
use Rattle.cfg_tree.specs.declared.refusal_kind.RefusalKind.TheVariants.{UnknownVariable}
use Rattle.cfg_laws.proofs.Telling.{In, Silent, accepted_silent, refused_silent, one_tells, both_silent, each_silent, from_some_silent, if_silent}

-- the number of a name, by its place
placed : List ℕ → Seen → Option ℕ → Outcome ℕ
placed name seen (Some n) = accepted n seen
placed name seen None = accepted (length seen.vars) (record seen { vars = seen.vars ++ name ∷ [] })

module _ (r : Refusal) (other : (at : Place) → refusal UnknownVariable at ≡ r → ⊥) where
  placed_nothing : (name : List ℕ) (s : Seen) (o : Option ℕ) → In r (placed name s o).refusals → ⊥
  unfolding placed
  placed_nothing name s (Some n) h = h
  placed_nothing name s None h = h

  var_number_silent : (name : List ℕ) → Silent r (var_number name)
  unfolding placed
  var_number_silent name = record { only = λ s h. placed_nothing name s (position (bytes_eq name) s.vars) h; whole = λ s h. absurd h }

  host_silent : (x : PvUse) → Silent r (host_layer x)
  host_silent x = accepted_silent r (Part-F.Host x)

  -- what each key of a table is read as
  abbrev Expands : (List ℕ → Checked (List Part)) → Type 0
  Expands expand = (text : List ℕ) → Silent r (expand text)

  item_silent : (known : Known) (expand : List ℕ → Checked (List Part)) → Expands expand → (at : Place) (way : TableUse) (inner : List ℕ) → Silent r (item_layer known expand at way inner)
  item_silent known expand ex at way inner = from_some_silent r (table_and_key inner) UnknownVariable at _ (other at) (λ split.
      from_some_silent r (position (bytes_eq split.0) known.tables) UnknownVariable at _ (other at) (λ t. one_tells r (λ key. Part-F.Item way t key) (expand split.1) (ex split.1)))

  bare_silent : (at : Place) (name : List ℕ) → Silent r (bare_layer at name)
  bare_silent at name =
      if_silent r (bytes_eq name (codes "rc")) _ _ (accepted_silent r Part-F.Code) (if_silent r (bytes_eq name (codes "retcode")) _ _ (accepted_silent r Part-F.Code)
      (from_some_silent r (named name host_names) UnknownVariable at host_layer (other at) host_silent))

  inner_silent : (known : Known) (expand : List ℕ → Checked (List Part)) → Expands expand → (at : Place) (name inner : List ℕ) → Silent r (inner_layer known expand at name inner)
  inner_silent known expand ex at name inner =
      if_silent r (bytes_eq name (codes "var")) _ _ (from_some_silent r (some_text inner) UnknownVariable at _ (other at) (λ n. one_tells r (λ x. Part-F.Var x) (var_number n) (var_number_silent n)))
      (if_silent r (bytes_eq name (codes "avp")) _ _ (from_some_silent r (avp_name inner) UnknownVariable at _ (other at) (λ n. host_silent (pv.Avp n)))
      (if_silent r (bytes_eq name (codes "hdr")) _ _ (from_some_silent r (some_text inner) UnknownVariable at _ (other at) (λ n. host_silent (pv.Header n)))
      (if_silent r (bytes_eq name (codes "T")) _ _ (from_some_silent r (named inner suspension_names) UnknownVariable at host_layer (other at) host_silent)
      (from_some_silent r (named name table_names) UnknownVariable at _ (other at) (λ way. item_silent known expand ex at way inner)))))

  untransformed_silent : (known : Known) (expand : List ℕ → Checked (List Part)) → Expands expand → (at : Place) (v : Variable) (o : Option (List ℕ)) → Silent r (untransformed known expand at v o)
  untransformed_silent known expand ex at v None = bare_silent at v.name
  untransformed_silent known expand ex at v (Some inner) = inner_silent known expand ex at v.name inner

  transformed_silent : (at : Place) (layer : Checked Layer) → Silent r layer → (o : Option (List ℕ)) → Silent r (transformed_layer at layer o)
  transformed_silent at layer t None = t
  transformed_silent at layer t (Some name) =
      both_silent r (λ p tr. Part-F.Transformed tr (roll-Part p)) layer (from_some (named name transformation_names) UnknownVariable at accepted) t
      (from_some_silent r (named name transformation_names) UnknownVariable at accepted (other at) (accepted_silent r))

  layer_by_silent : (known : Known) (expand : List ℕ → Checked (List Part)) → Expands expand → (at : Place) (v : Variable) → Silent r (layer_by known expand at v)
  layer_by_silent known expand ex at v = transformed_silent at (untransformed known expand at v v.inner) (untransformed_silent known expand ex at v v.inner) v.transformation

  piece_silent : (known : Known) (expand : List ℕ → Checked (List Part)) → Expands expand → (at : Place) (p : Piece) → Silent r (piece_part known expand at p)
  piece_silent known expand ex at (Plain t) = accepted_silent r (roll-Part (Part-F.Text t))
  piece_silent known expand ex at (Of v) = one_tells r roll-Part (layer_by known expand at v) (layer_by_silent known expand ex at v)

  plain_silent : (at : Place) (p : Piece) → Silent r (plain_part at p)
  plain_silent at (Plain t) = accepted_silent r (roll-Part (Part-F.Text t))
  plain_silent at (Of v) = refused_silent r UnknownVariable at (other at)

  expansion_within_silent : (depth : ℕ) (known : Known) (at : Place) (text : List ℕ) → Silent r (expansion_within depth known at text)
  unfolding expansion_within
  expansion_within_silent zero known at text = from_some_silent r (pieces_of text) UnknownVariable at _ (other at) (λ pieces. each_silent r (plain_part at) (plain_silent at) pieces)
  expansion_within_silent (suc depth) known at text = from_some_silent r (pieces_of text) UnknownVariable at _ (other at) (λ pieces.
      each_silent r (piece_part known (expansion_within depth known at) at)
      (piece_silent known (expansion_within depth known at) (expansion_within_silent depth known at) at) pieces)

  pub expansion_silent : (known : Known) (at : Place) (text : List ℕ) → Silent r (expansion known at text)
  expansion_silent known at text = expansion_within_silent max_nested known at text

  pub layer_of_silent : (known : Known) (at : Place) (v : Variable) → Silent r (layer_of known at v)
  layer_of_silent known at v = layer_by_silent known (expansion_within (max_nested - 1) known at) (expansion_within_silent (max_nested - 1) known at) at v

  pub part_of_silent : (known : Known) (at : Place) (v : Variable) → Silent r (part_of known at v)
  part_of_silent known at v = one_tells r roll-Part (layer_of known at v) (layer_of_silent known at v)

  pub table_number_silent : (known : Known) (at : Place) (name : List ℕ) → Silent r (table_number known at name)
  table_number_silent known at name = from_some_silent r (position (bytes_eq name) known.tables) UnknownVariable at accepted (other at) (accepted_silent r)

  pub expanded_arg_silent : (known : Known) (a : RawArg) → Silent r (expanded_arg known a)
  expanded_arg_silent known (arg.String w) = expansion_silent known w.at w.text
  expanded_arg_silent known (arg.Number n) = accepted_silent r (roll-Part (Part-F.Text (signed_decimal n)) ∷ [])
  expanded_arg_silent known (arg.Variable v) = one_tells r (λ p. p ∷ []) (part_of known v.at v.variable) (part_of_silent known v.at v.variable)
