-- Texts that are expanded, and variables with a transformation.
use Rattle.std.proofs.Common.{◌≡◌, ℕ, zero, suc, List, [], ◌∷◌, map, Option, Some, None, Result, Ok, Err, refl, sym, ap, ◌∙◌, subst}
use Rattle.std.specs.Prelude.{option_map, IfOk}
use Rattle.pv_values.specs.declared.refusal.Place.{Place}
use Rattle.pv_values.specs.declared.variable.Transformation.{Transformation}
use Rattle.cfg_tree.specs.declared.token.Variable.{Variable}
use Rattle.cfg_tree.specs.declared.script.Part.{Part}
use Rattle.cfg_tree.specs.declared.script.Part.TheOpen.{Part-F}
use Rattle.cfg_tree.specs.declared.script.Part.TheViews.{roll-Part}
use Rattle.cfg_tree.specs.Variables.{pieces_of}
use Rattle.cfg_tree.specs.Names.{Known, Layer, expansion_within, untransformed, layer_by, transformed_layer, named, transformation_names}
use Rattle.cfg_tree.specs.Refusals.{Checked, accepted, refused, one, both, each, join, from_some}
use Rattle.cfg_lex.specs.declared.piece.Piece.{Piece}
use Rattle.cfg_lex.specs.Pieces.{as_piece}
use Rattle.cfg_calls.specs.Following.{CheckState, Follows}
use Rattle.cfg_calls.specs.Layers.{piece_within}
use Rattle.cfg_calls.proofs.Follows.{follows_both}
use Rattle.cfg_tree.specs.declared.refusal_kind.RefusalKind.TheVariants.{UnknownVariable}

-- an answer that follows a check follows one that is the same
pub answered : {A E : Type 0} (r : Result (Option A) E) (m n : Checked A) (a b : CheckState) → m ≡ n → IfOk r (λ v. Follows m a v b) → IfOk r (λ v. Follows n a v b)
answered r m n a b e h = subst (λ k. IfOk r (λ v. Follows k a v b)) e h

-- a text by its pieces, where so many variables may still be opened
pieces_within : (depth : ℕ) (known : Known) (at : Place) (text : List ℕ) →
    expansion_within depth known at text ≡ from_some (pieces_of text) UnknownVariable at (λ ps. each (map (piece_within depth known at) ps))
unfolding expansion_within
pieces_within zero known at text = refl
pieces_within (suc depth) known at text = refl

-- a `$` stands in it that begins no variable
pub no_pieces : (depth : ℕ) (known : Known) (at : Place) (text : List ℕ) → None ≡ pieces_of text → refused UnknownVariable at ≡ expansion_within depth known at text
no_pieces depth known at text none = sym (pieces_within depth known at text ∙ rw (← none) refl)

-- each piece, as it was read
abbrev pub piece_check : ℕ → Known → Place → Piece → Checked Part
piece_check depth known at p = piece_within depth known at (as_piece p)

map_pieces : (f : _ → Checked Part) (ps : List Piece) → map f (map as_piece ps) ≡ map (λ p. f (as_piece p)) ps
map_pieces f [] = refl
map_pieces f (p ∷ ps) = ap (λ ms. f (as_piece p) ∷ ms) (map_pieces f ps)

pub by_pieces : (depth : ℕ) (known : Known) (at : Place) (text : List ℕ) (ps : List Piece) (a b : CheckState) (v : Option (List Part)) → Some (map as_piece ps) ≡ pieces_of text →
    Follows (each (map (piece_check depth known at) ps)) a v b → Follows (expansion_within depth known at text) a v b
by_pieces depth known at text ps a b v are h =
    let same : each (map (piece_check depth known at) ps) ≡ expansion_within depth known at text =
    ap each (sym (map_pieces (piece_within depth known at) ps)) ∙ sym (pieces_within depth known at text ∙ rw (← are) refl) in
    subst (λ m. Follows m a v b) same h

-- ---- transformations

joined : (p : Option Layer) (t : Option Transformation) →
    join (λ p tr. roll-Part (Part-F.Transformed tr p)) (option_map roll-Part p) t ≡ option_map roll-Part (join (λ p tr. Part-F.Transformed tr (roll-Part p)) p t)
joined None t = refl
joined (Some p) None = refl
joined (Some p) (Some t) = refl

pub transformed : (at : Place) (layer : Checked Layer) (name : List ℕ) (a b c : CheckState) (part : Option Part) (t : Option Transformation) (r : Option Part) →
    Follows (one roll-Part layer) a part b → Follows (from_some (named name transformation_names) UnknownVariable at accepted) b t c →
    r ≡ join (λ p tr. roll-Part (Part-F.Transformed tr p)) part t → Follows (one roll-Part (transformed_layer at layer (Some name))) a r c
transformed at layer name a b c part t r first second is =
    let h = follows_both (λ p tr. roll-Part (Part-F.Transformed tr p)) (one roll-Part layer) (from_some (named name transformation_names) UnknownVariable at accepted) a b c part t r first second is in
    record {
      value_is = h.value_is ∙ joined (layer a.seen).value _;
      refusals_are = h.refusals_are;
      seen_is = h.seen_is;
    }

pub transformed_by : {E : Type 0} (known : Known) (expand : List ℕ → Checked (List Part)) (at : Place) (v : Variable) (name : List ℕ) (a b c : CheckState) (part : Option Part) (t : Option Transformation) (r : Result (Option Part) E) →
    v.transformation ≡ Some name → Follows (one roll-Part (untransformed known expand at v v.inner)) a part b → Follows (from_some (named name transformation_names) UnknownVariable at accepted) b t c →
    IfOk r (λ x. x ≡ join (λ p tr. roll-Part (Part-F.Transformed tr p)) part t) → IfOk r (λ x. Follows (one roll-Part (layer_by known expand at v)) a x c)
transformed_by known expand at v name a b c part t (Ok x) is first second made = rw is (transformed at (untransformed known expand at v v.inner) name a b c part t x first second made)
transformed_by known expand at v name a b c part t (Err e) is first second made = tt
