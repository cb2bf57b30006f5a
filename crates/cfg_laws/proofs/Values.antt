-- A variable or an expanded text has a value exactly where it is known.
use Rattle.std.proofs.Common.{◌≡◌, ◌⊎◌, ℕ, zero, suc, ◌-◌, Bool, true, false, ◌&&◌, ◌||◌, if◌then◌else◌, List, [], ◌∷◌, ◌++◌, map, length, Option, Some, None, refl, sym, ap, ◌∙◌, subst, inl, inr}
use Rattle.std.specs.Prelude.{position, codes, option_map}
use Rattle.std.specs.List.{list_all}
use Rattle.std.specs.Str.{bytes_eq}
use Rattle.std.proofs.lemmas.Bool.{true≢false}
use Rattle.pv_values.specs.declared.refusal.Place.{Place}
use Rattle.pv_values.specs.declared.variable.PvUse.{PvUse}
use Rattle.pv_values.specs.declared.variable.PvUse.TheVariants as pv
use Rattle.cfg_tree.specs.declared.token.Variable.{Variable}
use Rattle.cfg_tree.specs.declared.script.TableUse.{TableUse}
use Rattle.cfg_tree.specs.declared.script.Part.{Part}
use Rattle.cfg_tree.specs.declared.script.Part.TheOpen.{Part-F}
use Rattle.cfg_tree.specs.declared.script.Part.TheViews.{roll-Part}
use Rattle.cfg_tree.specs.Variables.{Piece, Plain, Of, pieces_of}
use Rattle.cfg_tree.specs.Names.{Known, named, host_names, table_names, suspension_names, transformation_names, var_number, some_text, avp_name, table_and_key, Layer, host_layer, item_layer, bare_layer, inner_layer, untransformed, transformed_layer, layer_by, piece_part, plain_part, expansion_within, max_nested, expansion, layer_of, part_of}
use Rattle.cfg_tree.specs.Refusals.{Seen, Outcome, Checked, accepted, refused, join, one, both, each, from_some}
use Rattle.cfg_tree.specs.declared.refusal_kind.RefusalKind.TheVariants.{UnknownVariable}
use Rattle.cfg_laws.specs.Known.{among, there, brackets_known, word_known, transformation_known, variable_known, piece_known, is_bytes, text_known}
use Rattle.cfg_laws.proofs.Positions.{position_none, position_one}
use Rattle.cfg_laws.proofs.Blocks.{any_one, one_any}

placed : List ℕ → Seen → Option ℕ → Outcome ℕ
placed name seen (Some n) = accepted n seen
placed name seen None = accepted (length seen.vars) (record seen { vars = seen.vars ++ name ∷ [] })

and_false : (a b : Bool) → (a && b) ≡ false → (a ≡ false) ⊎ (b ≡ false)
and_false true b e = inr e
and_false false b e = inl refl

false_left : (a b : Bool) → a ≡ false → (a && b) ≡ false
false_left true b e = absurd (true≢false e)
false_left false b e = refl

false_right : (a b : Bool) → b ≡ false → (a && b) ≡ false
false_right true b e = e
false_right false b e = refl

and_true : (b : Bool) → (b && true) ≡ b
and_true true = refl
and_true false = refl

-- something is there exactly where this holds
abbrev pub Is : {A : Type 0} → Option A → Bool → Type 0
Is None b = b ≡ false
Is (Some a) b = b ≡ true

pub record Has {A : Type 0} (m : Checked A) (b : Bool) : Type 0 where
  pub has : (s : Seen) → Is (m s).value b

is_map : {A B : Type 0} (f : A → B) (o : Option A) (b : Bool) → Is o b → Is (option_map f o) b
is_map f None b h = h
is_map f (Some a) b h = h

is_join : {A B C : Type 0} (f : A → B → C) (x : Option A) (y : Option B) (b c : Bool) → Is x b → Is y c → Is (join f x y) (b && c)
is_join f None y b c h k = false_left b c h
is_join f (Some a) None b c h k = false_right b c k
is_join f (Some a) (Some d) b c h k = ap (λ x. x && c) h ∙ k

accepted_has : {A : Type 0} (a : A) → Has (accepted a) true
accepted_has a = record { has = λ s. refl }

one_has : {A B : Type 0} (f : A → B) (m : Checked A) {b : Bool} → Has m b → Has (one f m) b
one_has f m {b} h = record { has = λ s. is_map f (m s).value b (h.has s) }

both_has : {A B C : Type 0} (f : A → B → C) (m : Checked A) (n : Checked B) (b c : Bool) → Has m b → Has n c → Has (both f m n) (b && c)
both_has f m n b c h k = record { has = λ s. is_join f (m s).value (n (m s).seen).value b c (h.has s) (k.has (m s).seen) }

module _ (p : Place) where
  refused_has : {A : Type 0} → Has (refused {A = A} UnknownVariable p) false
  refused_has = record { has = λ s. refl }

  each_has : {X A : Type 0} (f : X → Checked A) (g : X → Bool) → ((x : X) → Has (f x) (g x)) → (xs : List X) → Has (each (map f xs)) (list_all g xs)
  each_has f g is [] = accepted_has []
  each_has f g is (x ∷ xs) = both_has (λ a more. a ∷ more) (f x) (each (map f xs)) (g x) (list_all g xs) (is x) (each_has f g is xs)

  pub some_has : {A B : Type 0} (o : Option A) (next : A → Checked B) (g : A → Bool) → ((a : A) → Has (next a) (g a)) → Has (from_some o UnknownVariable p next) (there o g)
  some_has None next g is = refused_has
  some_has (Some a) next g is = is a

  pub if_has : {A : Type 0} (t : Bool) (m n : Checked A) (b c : Bool) → Has m b → Has n c → Has (if t then m else n) (if t then b else c)
  if_has true m n b c j k = j
  if_has false m n b c j k = k

  or_has : {A : Type 0} (t : Bool) (m n : Checked A) (c : Bool) → Has m true → Has n c → Has (if t then m else n) (t || c)
  or_has true m n c j k = j
  or_has false m n c j k = k

  -- ---- a table of names

  row_has : {A B : Type 0} (t : Bool) (a : A) (o : Option A) (next : A → Checked B) (c : Bool) → Has (next a) true → Has (from_some o UnknownVariable p next) c →
      Has (from_some (if t then Some a else o) UnknownVariable p next) (t || c)
  row_has true a o next c j k = j
  row_has false a o next c j k = k

  named_has : {A B : Type 0} (name : List ℕ) (rows : List (List ℕ × A)) (next : A → Checked B) → ((a : A) → Has (next a) true) →
      Has (from_some (named name rows) UnknownVariable p next) (among name (map (λ (row : List ℕ × A). row.0) rows))
  named_has name [] next is = refused_has
  named_has name (row ∷ rows) next is =
      row_has (bytes_eq name row.0) row.1 (named name rows) next (among name (map (λ r. r.0) rows)) (is row.1) (named_has name rows next is)

  -- the same of words whose next reading may be refused
  row_and : {A B : Type 0} (t : Bool) (a : A) (o : Option A) (next : A → Checked B) (c d : Bool) → Has (next a) d → Has (from_some o UnknownVariable p next) (c && d) →
      Has (from_some (if t then Some a else o) UnknownVariable p next) ((t || c) && d)
  row_and true a o next c d j k = j
  row_and false a o next c d j k = k

  named_and : {A B : Type 0} (name : List ℕ) (rows : List (List ℕ × A)) (next : A → Checked B) (d : Bool) → ((a : A) → Has (next a) d) →
      Has (from_some (named name rows) UnknownVariable p next) (among name (map (λ (row : List ℕ × A). row.0) rows) && d)
  named_and name [] next d is = refused_has
  named_and name (row ∷ rows) next d is =
      row_and (bytes_eq name row.0) row.1 (named name rows) next (among name (map (λ r. r.0) rows)) d (is row.1) (named_and name rows next d is)

  -- ---- the number of a table

  none_false : (b : Bool) → (b ≡ true → ⊥) → b ≡ false
  none_false true h = absurd (h refl)
  none_false false h = refl

  pub place_has : {B : Type 0} (name : List ℕ) (tables : List (List ℕ)) (o : Option ℕ) → position (bytes_eq name) tables ≡ o → (next : ℕ → Checked B) (c : Bool) → ((t : ℕ) → Has (next t) c) →
      Has (from_some o UnknownVariable p next) (among name tables && c)
  place_has {B} name tables None e next c is =
      let absent : among name tables ≡ false = none_false (among name tables) (λ t. let k = any_one (bytes_eq name) tables t in position_none (bytes_eq name) tables e k.0 k.1 k.2) in
      subst (λ (b : Bool). Has {A = B} (refused UnknownVariable p) b) (sym (false_left (among name tables) c absent)) refused_has
  place_has name tables (Some n) e next c is =
      let k = position_one (bytes_eq name) tables n e in
      let present : among name tables ≡ true = one_any (bytes_eq name) tables k.0 k.1 k.2 in
      subst (λ (b : Bool). Has (next n) b) (sym (ap (λ b. b && c) present)) (is n)

  -- ---- variables

  placed_has : (name : List ℕ) (s : Seen) (o : Option ℕ) → Is (placed name s o).value true
  unfolding placed
  placed_has name s (Some n) = refl
  placed_has name s None = refl

  var_has : (name : List ℕ) → Has (var_number name) true
  unfolding placed
  var_has name = record { has = λ s. placed_has name s (position (bytes_eq name) s.vars) }

  host_has : (x : PvUse) → Has (host_layer x) true
  host_has x = accepted_has (Part-F.Host x)

  -- each key is known where this test says so
  abbrev Expands : (List ℕ → Checked (List Part)) → (List ℕ → Bool) → Type 0
  Expands expand known = (text : List ℕ) → Has (expand text) (known text)

  module _ (known : Known) where
    item_has : (expand : List ℕ → Checked (List Part)) (keys : List ℕ → Bool) → Expands expand keys → (way : TableUse) (inner : List ℕ) →
        Has (item_layer known expand p way inner) (there (table_and_key inner) (λ split. among split.0 known.tables && keys split.1))
    item_has expand keys ex way inner =
        some_has (table_and_key inner) _ (λ split. among split.0 known.tables && keys split.1) (λ split.
        place_has split.0 known.tables (position (bytes_eq split.0) known.tables) refl _ (keys split.1) (λ t. one_has (λ key. Part-F.Item way t key) (expand split.1) (ex split.1)))

    bare_has : (name : List ℕ) → Has (bare_layer p name) (word_known known.tables (λ t. true) name None)
    bare_has name =
        or_has (bytes_eq name (codes "rc")) _ _ _ (accepted_has Part-F.Code) (or_has (bytes_eq name (codes "retcode")) _ _ _ (accepted_has Part-F.Code)
        (named_has name host_names host_layer host_has))

    inner_has : (expand : List ℕ → Checked (List Part)) (keys : List ℕ → Bool) → Expands expand keys → (name inner : List ℕ) →
        Has (inner_layer known expand p name inner) (brackets_known known.tables keys name inner)
    inner_has expand keys ex name inner =
        if_has (bytes_eq name (codes "var")) _ _ _ _ (some_has (some_text inner) _ (λ n. true) (λ n. one_has (λ x. Part-F.Var x) (var_number n) (var_has n)))
        (if_has (bytes_eq name (codes "avp")) _ _ _ _ (some_has (avp_name inner) _ (λ n. true) (λ n. host_has (pv.Avp n)))
        (if_has (bytes_eq name (codes "hdr")) _ _ _ _ (some_has (some_text inner) _ (λ n. true) (λ n. host_has (pv.Header n)))
        (if_has (bytes_eq name (codes "T")) _ _ _ _ (named_has inner suspension_names host_layer host_has)
        (named_and name table_names _ (there (table_and_key inner) (λ split. among split.0 known.tables && keys split.1)) (λ way. item_has expand keys ex way inner)))))

    untransformed_has : (expand : List ℕ → Checked (List Part)) (keys : List ℕ → Bool) → Expands expand keys → (v : Variable) (o : Option (List ℕ)) →
        Has (untransformed known expand p v o) (word_known known.tables keys v.name o)
    untransformed_has expand keys ex v None = bare_has v.name
    untransformed_has expand keys ex v (Some inner) = inner_has expand keys ex v.name inner

    transformed_has : (layer : Checked Layer) (b : Bool) → Has layer b → (o : Option (List ℕ)) → Has (transformed_layer p layer o) (b && transformation_known o)
    transformed_has layer b j None = subst (λ (c : Bool). Has layer c) (sym (and_true b)) j
    transformed_has layer b j (Some name) =
        both_has (λ x tr. Part-F.Transformed tr (roll-Part x)) layer (from_some (named name transformation_names) UnknownVariable p accepted) b (among name (map (λ r. r.0) transformation_names)) j
        (named_has name transformation_names accepted (λ tr. accepted_has tr))

    layer_has : (expand : List ℕ → Checked (List Part)) (keys : List ℕ → Bool) → Expands expand keys → (v : Variable) → Has (layer_by known expand p v) (variable_known known.tables keys v)
    layer_has expand keys ex v = transformed_has (untransformed known expand p v v.inner) (word_known known.tables keys v.name v.inner) (untransformed_has expand keys ex v v.inner) v.transformation

    piece_has : (expand : List ℕ → Checked (List Part)) (keys : List ℕ → Bool) → Expands expand keys → (x : Piece) → Has (piece_part known expand p x) (piece_known known.tables keys x)
    piece_has expand keys ex (Plain t) = accepted_has (roll-Part (Part-F.Text t))
    piece_has expand keys ex (Of v) = one_has roll-Part (layer_by known expand p v) (layer_has expand keys ex v)

    plain_has : (x : Piece) → Has (plain_part p x) (is_bytes x)
    plain_has (Plain t) = accepted_has (roll-Part (Part-F.Text t))
    plain_has (Of v) = refused_has

    within_has : (room : ℕ) (text : List ℕ) → Has (expansion_within room known p text) (text_known known.tables room text)
    unfolding expansion_within
    within_has zero text = some_has (pieces_of text) _ (list_all is_bytes) (λ pieces. each_has (plain_part p) is_bytes plain_has pieces)
    within_has (suc room) text = some_has (pieces_of text) _ (list_all (piece_known known.tables (text_known known.tables room))) (λ pieces.
        each_has (piece_part known (expansion_within room known p) p) (piece_known known.tables (text_known known.tables room))
        (piece_has (expansion_within room known p) (text_known known.tables room) (within_has room)) pieces)

    pub expansion_has : (text : List ℕ) → Has (expansion known p text) (text_known known.tables 32 text)
    expansion_has text = within_has max_nested text

    pub layer_of_has : (v : Variable) → Has (layer_of known p v) (variable_known known.tables (text_known known.tables 31) v)
    layer_of_has v = layer_has (expansion_within (max_nested - 1) known p) (text_known known.tables 31) (within_has 31) v

    pub part_of_has : (v : Variable) → Has (part_of known p v) (variable_known known.tables (text_known known.tables 31) v)
    part_of_has v = one_has roll-Part (layer_of known p v) (layer_of_has v)
