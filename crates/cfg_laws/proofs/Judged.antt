-- A variable or an expanded text is refused UnknownVariable exactly where it isn't known, and at its own place.
use Rattle.std.proofs.Common.{◌≡◌, ◌⊎◌, ℕ, zero, suc, ◌-◌, Bool, true, false, ◌&&◌, ◌||◌, if◌then◌else◌, List, [], ◌∷◌, ◌++◌, map, length, Option, Some, None, refl, sym, ap, ◌∙◌, subst, inl, inr}
use Rattle.std.specs.Prelude.{position, codes}
use Rattle.std.specs.List.{list_all}
use Rattle.std.specs.Str.{bytes_eq}
use Rattle.std.proofs.lemmas.Bool.{true≢false}
use Rattle.pv_values.specs.declared.refusal.Place.{Place}
use Rattle.pv_values.specs.declared.variable.PvUse.{PvUse}
use Rattle.pv_values.specs.declared.variable.PvUse.TheVariants as pv
use Rattle.cfg_tree.specs.declared.token.Variable.{Variable}
use Rattle.cfg_tree.specs.declared.script.TableUse.{TableUse}
use Rattle.cfg_tree.specs.declared.script.Part.{Part}
use Rattle.cfg_tree.specs.declared.script.Part.TheOpen.{Part-F}
use Rattle.cfg_tree.specs.declared.script.Part.TheViews.{roll-Part}
use Rattle.cfg_tree.specs.Variables.{Piece, Plain, Of, pieces_of}
use Rattle.cfg_tree.specs.Names.{Known, named, host_names, table_names, suspension_names, transformation_names, var_number, some_text, avp_name, table_and_key, Layer, host_layer, item_layer, bare_layer, inner_layer, untransformed, transformed_layer, layer_by, piece_part, plain_part, expansion_within, max_nested, expansion, layer_of, part_of}
use Rattle.cfg_tree.specs.Refusals.{Refusal, refusal, Seen, Outcome, Checked, accepted, refused, both, each, from_some}
use Rattle.cfg_tree.specs.declared.refusal_kind.RefusalKind.TheVariants.{UnknownVariable}
use Rattle.cfg_laws.specs.Known.{among, there, brackets_known, word_known, transformation_known, variable_known, piece_known, is_bytes, text_known}
use Rattle.cfg_laws.proofs.Telling.{In, Tells, same_tells, accepted_silent, refused_tells, one_tells, both_tells}
use Rattle.cfg_laws.proofs.Positions.{position_none, position_one}
use Rattle.cfg_laws.proofs.Blocks.{any_one, one_any}

placed : List ℕ → Seen → Option ℕ → Outcome ℕ
placed name seen (Some n) = accepted n seen
placed name seen None = accepted (length seen.vars) (record seen { vars = seen.vars ++ name ∷ [] })

and_false : (a b : Bool) → (a && b) ≡ false → (a ≡ false) ⊎ (b ≡ false)
and_false true b e = inr e
and_false false b e = inl refl

false_left : (a b : Bool) → a ≡ false → (a && b) ≡ false
false_left true b e = absurd (true≢false e)
false_left false b e = refl

false_right : (a b : Bool) → b ≡ false → (a && b) ≡ false
false_right true b e = e
false_right false b e = refl

pub and_true : (b : Bool) → (b && true) ≡ b
and_true true = refl
and_true false = refl

module _ (at p : Place) where
  abbrev pub here : Refusal
  here = refusal UnknownVariable at

  -- refused here exactly where the test fails and the place is this one
  abbrev pub Judged : {A : Type 0} → Checked A → Bool → Type 0
  Judged m b = Tells here m ((at ≡ p) × (b ≡ false))

  pub accepted_judged : {A : Type 0} (a : A) → Judged (accepted a) true
  accepted_judged a = same_tells here (accepted a) (λ h. absurd h) (λ h. true≢false h.1) (accepted_silent here a)

  pub refused_judged : {A : Type 0} → Judged (refused {A = A} UnknownVariable p) false
  refused_judged {A} = same_tells here (refused {A = A} UnknownVariable p) (λ e. (sym (ap (λ (x : Refusal). x.at) e), refl)) (λ h. ap (refusal UnknownVariable) (sym h.0)) (refused_tells here UnknownVariable p)

  pub both_judged : {A B C : Type 0} (f : A → B → C) (m : Checked A) (n : Checked B) (b c : Bool) → Judged m b → Judged n c → Judged (both f m n) (b && c)
  both_judged f m n b c t u = same_tells here (both f m n)
      (λ h. elim h [
        | inl k ↦ (k.0, false_left b c k.1)
        | inr k ↦ (k.0, false_right b c k.1)
      ])
      (λ h. elim (and_false b c h.1) [
        | inl k ↦ inl (h.0, k)
        | inr k ↦ inr (h.0, k)
      ])
      (both_tells here f m n t u)

  pub each_judged : {X A : Type 0} (f : X → Checked A) (g : X → Bool) → ((x : X) → Judged (f x) (g x)) → (xs : List X) → Judged (each (map f xs)) (list_all g xs)
  each_judged f g is [] = accepted_judged []
  each_judged f g is (x ∷ xs) = both_judged (λ a more. a ∷ more) (f x) (each (map f xs)) (g x) (list_all g xs) (is x) (each_judged f g is xs)

  pub some_judged : {A B : Type 0} (o : Option A) (next : A → Checked B) (g : A → Bool) → ((a : A) → Judged (next a) (g a)) → Judged (from_some o UnknownVariable p next) (there o g)
  some_judged None next g is = refused_judged
  some_judged (Some a) next g is = is a

  pub if_judged : {A : Type 0} (t : Bool) (m n : Checked A) (b c : Bool) → Judged m b → Judged n c → Judged (if t then m else n) (if t then b else c)
  if_judged true m n b c j k = j
  if_judged false m n b c j k = k

  or_judged : {A : Type 0} (t : Bool) (m n : Checked A) (c : Bool) → Judged m true → Judged n c → Judged (if t then m else n) (t || c)
  or_judged true m n c j k = j
  or_judged false m n c j k = k

  -- ---- a table of names

  row_judged : {A B : Type 0} (t : Bool) (a : A) (o : Option A) (next : A → Checked B) (c : Bool) → Judged (next a) true → Judged (from_some o UnknownVariable p next) c →
      Judged (from_some (if t then Some a else o) UnknownVariable p next) (t || c)
  row_judged true a o next c j k = j
  row_judged false a o next c j k = k

  named_judged : {A B : Type 0} (name : List ℕ) (rows : List (List ℕ × A)) (next : A → Checked B) → ((a : A) → Judged (next a) true) →
      Judged (from_some (named name rows) UnknownVariable p next) (among name (map (λ (row : List ℕ × A). row.0) rows))
  named_judged name [] next is = refused_judged
  named_judged name (row ∷ rows) next is =
      row_judged (bytes_eq name row.0) row.1 (named name rows) next (among name (map (λ r. r.0) rows)) (is row.1) (named_judged name rows next is)

  -- the same of words whose next reading may be refused
  row_and : {A B : Type 0} (t : Bool) (a : A) (o : Option A) (next : A → Checked B) (c d : Bool) → Judged (next a) d → Judged (from_some o UnknownVariable p next) (c && d) →
      Judged (from_some (if t then Some a else o) UnknownVariable p next) ((t || c) && d)
  row_and true a o next c d j k = j
  row_and false a o next c d j k = k

  named_and : {A B : Type 0} (name : List ℕ) (rows : List (List ℕ × A)) (next : A → Checked B) (d : Bool) → ((a : A) → Judged (next a) d) →
      Judged (from_some (named name rows) UnknownVariable p next) (among name (map (λ (row : List ℕ × A). row.0) rows) && d)
  named_and name [] next d is = refused_judged
  named_and name (row ∷ rows) next d is =
      row_and (bytes_eq name row.0) row.1 (named name rows) next (among name (map (λ r. r.0) rows)) d (is row.1) (named_and name rows next d is)

  -- ---- the number of a table

  none_false : (b : Bool) → (b ≡ true → ⊥) → b ≡ false
  none_false true h = absurd (h refl)
  none_false false h = refl

  pub place_judged : {B : Type 0} (name : List ℕ) (tables : List (List ℕ)) (o : Option ℕ) → position (bytes_eq name) tables ≡ o → (next : ℕ → Checked B) (c : Bool) → ((t : ℕ) → Judged (next t) c) →
      Judged (from_some o UnknownVariable p next) (among name tables && c)
  place_judged name tables None e next c is =
      let absent : among name tables ≡ false = none_false (among name tables) (λ t. let k = any_one (bytes_eq name) tables t in position_none (bytes_eq name) tables e k.0 k.1 k.2) in
      same_tells here (refused UnknownVariable p) (λ h. (h.0, false_left (among name tables) c absent)) (λ h. (h.0, refl)) refused_judged
  place_judged name tables (Some n) e next c is =
      let k = position_one (bytes_eq name) tables n e in
      let present : among name tables ≡ true = one_any (bytes_eq name) tables k.0 k.1 k.2 in
      same_tells here (next n) (λ h. (h.0, ap (λ b. b && c) present ∙ h.1)) (λ h. (h.0, sym (ap (λ b. b && c) present) ∙ h.1)) (is n)

  -- ---- variables

  placed_nothing : (name : List ℕ) (s : Seen) (o : Option ℕ) → In here (placed name s o).refusals → ⊥
  unfolding placed
  placed_nothing name s (Some n) h = h
  placed_nothing name s None h = h

  var_judged : (name : List ℕ) → Judged (var_number name) true
  unfolding placed
  var_judged name = record { only = λ s h. absurd (placed_nothing name s (position (bytes_eq name) s.vars) h); whole = λ s h. absurd (true≢false h.1) }

  host_judged : (x : PvUse) → Judged (host_layer x) true
  host_judged x = accepted_judged (Part-F.Host x)

  -- each key is known where this test says so
  abbrev Expands : (List ℕ → Checked (List Part)) → (List ℕ → Bool) → Type 0
  Expands expand known = (text : List ℕ) → Judged (expand text) (known text)

  module _ (known : Known) where
    item_judged : (expand : List ℕ → Checked (List Part)) (keys : List ℕ → Bool) → Expands expand keys → (way : TableUse) (inner : List ℕ) →
        Judged (item_layer known expand p way inner) (there (table_and_key inner) (λ split. among split.0 known.tables && keys split.1))
    item_judged expand keys ex way inner =
        some_judged (table_and_key inner) _ (λ split. among split.0 known.tables && keys split.1) (λ split.
        place_judged split.0 known.tables (position (bytes_eq split.0) known.tables) refl _ (keys split.1) (λ t. one_tells here (λ key. Part-F.Item way t key) (expand split.1) (ex split.1)))

    bare_judged : (name : List ℕ) → Judged (bare_layer p name) (word_known known.tables (λ t. true) name None)
    bare_judged name =
        or_judged (bytes_eq name (codes "rc")) _ _ _ (accepted_judged Part-F.Code) (or_judged (bytes_eq name (codes "retcode")) _ _ _ (accepted_judged Part-F.Code)
        (named_judged name host_names host_layer host_judged))

    inner_judged : (expand : List ℕ → Checked (List Part)) (keys : List ℕ → Bool) → Expands expand keys → (name inner : List ℕ) →
        Judged (inner_layer known expand p name inner) (brackets_known known.tables keys name inner)
    inner_judged expand keys ex name inner =
        if_judged (bytes_eq name (codes "var")) _ _ _ _ (some_judged (some_text inner) _ (λ n. true) (λ n. one_tells here (λ x. Part-F.Var x) (var_number n) (var_judged n)))
        (if_judged (bytes_eq name (codes "avp")) _ _ _ _ (some_judged (avp_name inner) _ (λ n. true) (λ n. host_judged (pv.Avp n)))
        (if_judged (bytes_eq name (codes "hdr")) _ _ _ _ (some_judged (some_text inner) _ (λ n. true) (λ n. host_judged (pv.Header n)))
        (if_judged (bytes_eq name (codes "T")) _ _ _ _ (named_judged inner suspension_names host_layer host_judged)
        (named_and name table_names _ (there (table_and_key inner) (λ split. among split.0 known.tables && keys split.1)) (λ way. item_judged expand keys ex way inner)))))

    untransformed_judged : (expand : List ℕ → Checked (List Part)) (keys : List ℕ → Bool) → Expands expand keys → (v : Variable) (o : Option (List ℕ)) →
        Judged (untransformed known expand p v o) (word_known known.tables keys v.name o)
    untransformed_judged expand keys ex v None = bare_judged v.name
    untransformed_judged expand keys ex v (Some inner) = inner_judged expand keys ex v.name inner

    transformed_judged : (layer : Checked Layer) (b : Bool) → Judged layer b → (o : Option (List ℕ)) → Judged (transformed_layer p layer o) (b && transformation_known o)
    transformed_judged layer b j None = subst (λ (c : Bool). Judged layer c) (sym (and_true b)) j
    transformed_judged layer b j (Some name) =
        both_judged (λ x tr. Part-F.Transformed tr (roll-Part x)) layer (from_some (named name transformation_names) UnknownVariable p accepted) b (among name (map (λ r. r.0) transformation_names)) j
        (named_judged name transformation_names accepted (λ tr. accepted_judged tr))

    layer_judged : (expand : List ℕ → Checked (List Part)) (keys : List ℕ → Bool) → Expands expand keys → (v : Variable) → Judged (layer_by known expand p v) (variable_known known.tables keys v)
    layer_judged expand keys ex v = transformed_judged (untransformed known expand p v v.inner) (word_known known.tables keys v.name v.inner) (untransformed_judged expand keys ex v v.inner) v.transformation

    piece_judged : (expand : List ℕ → Checked (List Part)) (keys : List ℕ → Bool) → Expands expand keys → (x : Piece) → Judged (piece_part known expand p x) (piece_known known.tables keys x)
    piece_judged expand keys ex (Plain t) = accepted_judged (roll-Part (Part-F.Text t))
    piece_judged expand keys ex (Of v) = one_tells here roll-Part (layer_by known expand p v) (layer_judged expand keys ex v)

    plain_judged : (x : Piece) → Judged (plain_part p x) (is_bytes x)
    plain_judged (Plain t) = accepted_judged (roll-Part (Part-F.Text t))
    plain_judged (Of v) = refused_judged

    within_judged : (room : ℕ) (text : List ℕ) → Judged (expansion_within room known p text) (text_known known.tables room text)
    unfolding expansion_within
    within_judged zero text = some_judged (pieces_of text) _ (list_all is_bytes) (λ pieces. each_judged (plain_part p) is_bytes plain_judged pieces)
    within_judged (suc room) text = some_judged (pieces_of text) _ (list_all (piece_known known.tables (text_known known.tables room))) (λ pieces.
        each_judged (piece_part known (expansion_within room known p) p) (piece_known known.tables (text_known known.tables room))
        (piece_judged (expansion_within room known p) (text_known known.tables room) (within_judged room)) pieces)

    pub expansion_judged : (text : List ℕ) → Judged (expansion known p text) (text_known known.tables 32 text)
    expansion_judged text = within_judged max_nested text

    pub layer_of_judged : (v : Variable) → Judged (layer_of known p v) (variable_known known.tables (text_known known.tables 31) v)
    layer_of_judged v = layer_judged (expansion_within (max_nested - 1) known p) (text_known known.tables 31) (within_judged 31) v

    pub part_of_judged : (v : Variable) → Judged (part_of known p v) (variable_known known.tables (text_known known.tables 31) v)
    part_of_judged v = one_tells here roll-Part (layer_of known p v) (layer_of_judged v)
