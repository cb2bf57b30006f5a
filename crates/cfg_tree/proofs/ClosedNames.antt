-- A variable that is read names what is there.
use Rattle.std.proofs.Common.{◌≡◌, ℕ, zero, suc, ◌-◌, ◌<◌, ◌≤◌, Bool, true, nat_lt, List, [], ◌∷◌, ◌++◌, ◌&&◌, map, length, Option, Some, None, refl, ap, ◌∙◌, arith, length-append}
use Rattle.std.specs.Prelude.{position, codes}
use Rattle.std.specs.List.{list_all}
use Rattle.std.specs.Str.{bytes_eq}
use Rattle.std.proofs.lemmas.Bool.{and_from, and_parts, lt-ltb}
use Rattle.std.proofs.lemmas.List.Quantifiers.{position-Some}
use Rattle.pv_values.specs.declared.refusal.Place.{Place}
use Rattle.pv_values.specs.declared.variable.PvUse.{PvUse}
use Rattle.pv_values.specs.declared.variable.PvUse.TheVariants as pv
use Rattle.cfg_tree.specs.declared.token.Variable.{Variable}
use Rattle.cfg_tree.specs.declared.script.TableUse.{TableUse}
use Rattle.cfg_tree.specs.declared.script.Part.{Part}
use Rattle.cfg_tree.specs.declared.script.Part.TheOpen.{Part-F}
use Rattle.cfg_tree.specs.declared.script.Part.TheViews.{roll-Part}
use Rattle.cfg_tree.specs.declared.script.Part.TheFolds.{fold-roll-Part, map-Part}
use Rattle.cfg_tree.specs.Variables.{Piece, Plain, Of, pieces_of}
use Rattle.cfg_tree.specs.Names.{Known, named, host_names, table_names, suspension_names, transformation_names, var_number, some_text, avp_name, table_and_key, Layer, host_layer, item_layer, bare_layer, inner_layer, untransformed, transformed_layer, layer_by, piece_part, plain_part, expansion_within, max_nested, expansion, layer_of, part_of}
use Rattle.cfg_tree.specs.Refusals.{Seen, Outcome, Checked, accepted, from_some, each}
use Rattle.cfg_tree.specs.Closed.{Names, closed_use, all_closed, closed_part_step, closed_part, closed_parts}
use Rattle.cfg_tree.proofs.Closing.{Within, Gives, Closes, Every, accepted_closes, refused_closes, one_closes, both_closes, all_closes, map_closes, from_some_closes, if_closes, named_closes}
use Rattle.cfg_tree.specs.declared.refusal_kind.RefusalKind.TheVariants.{UnknownVariable}

-- the place of one that passes is below the length
pub position_below : {X : Type 0} (p : X → Bool) (xs : List X) (n : ℕ) → position p xs ≡ Some n → n < length xs
position_below p [] n e = absurd (let e : None ≡ Some n = e in cc)
position_below p (x ∷ xs) n e = (position-Some p (x ∷ xs) n x e).0

-- a test of each of a list, and of what is made of each
pub all_mapped : {A : Type 0} (f : A → Bool) (xs : List A) → all_closed (map f xs) ≡ list_all f xs
all_mapped f [] = refl
all_mapped f (x ∷ xs) = ap (λ b. f x && b) (all_mapped f xs)

-- the number of a name, by its place
placed : List ℕ → Seen → Option ℕ → Outcome ℕ
placed name seen (Some n) = accepted n seen
placed name seen None = accepted (length seen.vars) (record seen { vars = seen.vars ++ name ∷ [] })

module _ (names : Names) where
  abbrev pub IsVar : ℕ → Type 0
  IsVar x = nat_lt x names.vars ≡ true

  abbrev pub IsTable : ℕ → Type 0
  IsTable t = nat_lt t names.tables ≡ true

  placed_gives : (name : List ℕ) (s : Seen) (o : Option ℕ) → ((n : ℕ) → o ≡ Some n → n < length s.vars) → Within names (placed name s o).seen → Gives names IsVar s (placed name s o).value
  unfolding placed
  placed_gives name s (Some n) is within = record {
    before = within;
    fine = let below = is n refl in let there = within.vars in lt-ltb n names.vars (omega (arith, below, there));
  }
  placed_gives name s None is within = record {
    before = record { patterns = within.patterns; vars = let there = within.vars in omega (arith, there, length-append s.vars (name ∷ [])) };
    fine = let there = within.vars in lt-ltb (length s.vars) names.vars (omega (arith, there, length-append s.vars (name ∷ [])));
  }

  var_number_closes : (name : List ℕ) → Closes names IsVar (var_number name)
  unfolding placed
  var_number_closes name = record { after = λ s within. placed_gives name s (position (bytes_eq name) s.vars) (λ n e. position_below (bytes_eq name) s.vars n e) within }

  -- ---- layers and parts

  -- a layer of a variable, and a part, that name what is there
  abbrev pub FineLayer : Layer → Type 0
  FineLayer x = closed_part names (roll-Part x) ≡ true

  abbrev pub FinePart : Part → Type 0
  FinePart p = closed_part names p ≡ true

  abbrev pub FineParts : List Part → Type 0
  FineParts ps = closed_parts names ps ≡ true

  -- what a layer says, of the layers in it
  rolled : (x : Layer) → closed_part_step names (map-Part Part Bool (closed_part names) x) ≡ true → FineLayer x
  rolled x e = fold-roll-Part Bool (closed_part_step names) x ∙ e

  pub text_fine : (t : List ℕ) → FinePart (roll-Part (Part-F.Text t))
  text_fine t = rolled (Part-F.Text t) refl

  pub host_fine : (x : PvUse) → closed_use names x ≡ true → FineLayer (Part-F.Host x)
  host_fine x e = rolled (Part-F.Host x) e

  host_closes : (x : PvUse) → closed_use names x ≡ true → Closes names FineLayer (host_layer x)
  host_closes x e = accepted_closes names FineLayer (Part-F.Host x) (host_fine x e)

  -- ---- variables

  abbrev HostsAre : List (List ℕ × PvUse) → Type 0
  HostsAre = Every (λ (row : List ℕ × PvUse). Closes names FineLayer (host_layer row.1))

  hosts_are : (rows : List (List ℕ × PvUse)) → list_all (λ (row : List ℕ × PvUse). closed_use names row.1) rows ≡ true → HostsAre rows
  hosts_are [] e = tt
  hosts_are (row ∷ rows) e =
      let parts = and_parts (closed_use names row.1) (list_all (λ (row : List ℕ × PvUse). closed_use names row.1) rows) e in
      (host_closes row.1 parts.0, hosts_are rows parts.1)

  bare_closes : (at : Place) (name : List ℕ) → Closes names FineLayer (bare_layer at name)
  bare_closes at name =
      let code = accepted_closes names FineLayer Part-F.Code (rolled Part-F.Code refl) in
      if_closes names FineLayer (bytes_eq name (codes "rc")) _ _ code (if_closes names FineLayer (bytes_eq name (codes "retcode")) _ _ code
      (named_closes names FineLayer name host_names UnknownVariable at host_layer (hosts_are host_names refl)))

  module _ (known : Known) (tables : length known.tables ≤ names.tables) where
    pub table_fine : (name : List ℕ) (t : ℕ) → position (bytes_eq name) known.tables ≡ Some t → IsTable t
    table_fine name t e = let below = position_below (bytes_eq name) known.tables t e in lt-ltb t names.tables (omega (arith, below, tables))

    -- what each key of a table is read as
    abbrev Expands : (List ℕ → Checked (List Part)) → Type 0
    Expands expand = (text : List ℕ) → Closes names FineParts (expand text)

    item_closes : (expand : List ℕ → Checked (List Part)) → Expands expand → (at : Place) (way : TableUse) (inner : List ℕ) → Closes names FineLayer (item_layer known expand at way inner)
    item_closes expand ex at way inner = from_some_closes names FineLayer (table_and_key inner) UnknownVariable at _ (λ split e.
        from_some_closes names FineLayer (position (bytes_eq split.0) known.tables) UnknownVariable at _ (λ t is.
        one_closes names (λ key. Part-F.Item way t key) FineParts FineLayer
        (λ key fine. rolled (Part-F.Item way t key) (and_from _ _ (table_fine split.0 t is) (all_mapped (closed_part names) key ∙ fine))) (expand split.1) (ex split.1)))

    inner_closes : (expand : List ℕ → Checked (List Part)) → Expands expand → (at : Place) (name inner : List ℕ) → Closes names FineLayer (inner_layer known expand at name inner)
    inner_closes expand ex at name inner =
        if_closes names FineLayer (bytes_eq name (codes "var")) _ _
        (from_some_closes names FineLayer (some_text inner) UnknownVariable at _ (λ n e. one_closes names (λ x. Part-F.Var x) IsVar FineLayer (λ x is. rolled (Part-F.Var x) is) (var_number n) (var_number_closes n)))
        (if_closes names FineLayer (bytes_eq name (codes "avp")) _ _ (from_some_closes names FineLayer (avp_name inner) UnknownVariable at _ (λ n e. host_closes (pv.Avp n) refl))
        (if_closes names FineLayer (bytes_eq name (codes "hdr")) _ _ (from_some_closes names FineLayer (some_text inner) UnknownVariable at _ (λ n e. host_closes (pv.Header n) refl))
        (if_closes names FineLayer (bytes_eq name (codes "T")) _ _ (named_closes names FineLayer inner suspension_names UnknownVariable at host_layer (hosts_are suspension_names refl))
        (from_some_closes names FineLayer (named name table_names) UnknownVariable at _ (λ way e. item_closes expand ex at way inner)))))

    untransformed_closes : (expand : List ℕ → Checked (List Part)) → Expands expand → (at : Place) (v : Variable) (o : Option (List ℕ)) → Closes names FineLayer (untransformed known expand at v o)
    untransformed_closes expand ex at v None = bare_closes at v.name
    untransformed_closes expand ex at v (Some inner) = inner_closes expand ex at v.name inner

    transformed_closes : (at : Place) (layer : Checked Layer) → Closes names FineLayer layer → (o : Option (List ℕ)) → Closes names FineLayer (transformed_layer at layer o)
    transformed_closes at layer cl None = cl
    transformed_closes at layer cl (Some name) =
        both_closes names (λ p tr. Part-F.Transformed tr (roll-Part p)) FineLayer (λ _. Unit {0}) FineLayer (λ p tr fine _. rolled (Part-F.Transformed tr (roll-Part p)) fine)
        layer (from_some (named name transformation_names) UnknownVariable at accepted) cl
        (from_some_closes names (λ _. Unit {0}) (named name transformation_names) UnknownVariable at accepted (λ tr e. accepted_closes names (λ _. Unit {0}) tr tt))

    layer_by_closes : (expand : List ℕ → Checked (List Part)) → Expands expand → (at : Place) (v : Variable) → Closes names FineLayer (layer_by known expand at v)
    layer_by_closes expand ex at v = transformed_closes at (untransformed known expand at v v.inner) (untransformed_closes expand ex at v v.inner) v.transformation

    piece_closes : (expand : List ℕ → Checked (List Part)) → Expands expand → (at : Place) (p : Piece) → Closes names FinePart (piece_part known expand at p)
    piece_closes expand ex at (Plain t) = accepted_closes names FinePart (roll-Part (Part-F.Text t)) (text_fine t)
    piece_closes expand ex at (Of v) = one_closes names roll-Part FineLayer FinePart (λ x fine. fine) (layer_by known expand at v) (layer_by_closes expand ex at v)

    plain_closes : (at : Place) (p : Piece) → Closes names FinePart (plain_part at p)
    plain_closes at (Plain t) = accepted_closes names FinePart (roll-Part (Part-F.Text t)) (text_fine t)
    plain_closes at (Of v) = refused_closes names FinePart UnknownVariable at

    parts_close : {X : Type 0} (f : X → Checked Part) → ((x : X) → Closes names FinePart (f x)) → (xs : List X) → Closes names FineParts (each (map f xs))
    parts_close f each_is xs = all_closes names (closed_part names) (map f xs) (map_closes names FinePart f each_is xs)

    expansion_within_closes : (depth : ℕ) (at : Place) (text : List ℕ) → Closes names FineParts (expansion_within depth known at text)
    unfolding expansion_within
    expansion_within_closes zero at text = from_some_closes names FineParts (pieces_of text) UnknownVariable at _ (λ pieces e. parts_close (plain_part at) (plain_closes at) pieces)
    expansion_within_closes (suc depth) at text = from_some_closes names FineParts (pieces_of text) UnknownVariable at _ (λ pieces e.
        parts_close (piece_part known (expansion_within depth known at) at) (piece_closes (expansion_within depth known at) (expansion_within_closes depth at) at) pieces)

    pub expansion_closes : (at : Place) (text : List ℕ) → Closes names FineParts (expansion known at text)
    expansion_closes at text = expansion_within_closes max_nested at text

    pub layer_of_closes : (at : Place) (v : Variable) → Closes names FineLayer (layer_of known at v)
    layer_of_closes at v = layer_by_closes (expansion_within (max_nested - 1) known at) (expansion_within_closes (max_nested - 1) at) at v

    pub part_of_closes : (at : Place) (v : Variable) → Closes names FinePart (part_of known at v)
    part_of_closes at v = one_closes names roll-Part FineLayer FinePart (λ x fine. fine) (layer_of known at v) (layer_of_closes at v)
