-- Of a pattern and of an assigned variable no refusals of other kinds are read.
use Rattle.std.proofs.Common.{◌≡◌, ℕ, not, nat_le, List, [], ◌∷◌, length, Option, Some, None, inl, inr}
use Rattle.pv_values.specs.Matching.{is_pattern}
use Rattle.pv_values.specs.declared.refusal.Place.{Place}
use Rattle.cfg_tree.specs.declared.raw.RawVariable.{RawVariable}
use Rattle.cfg_tree.specs.declared.raw.RouteKind.{RouteKind}
use Rattle.cfg_tree.specs.Names.{Known, layer_of}
use Rattle.cfg_tree.specs.Functions.{pattern_number}
use Rattle.cfg_tree.specs.Checks.{target_in, found_as, found, target_of}
use Rattle.cfg_tree.specs.Refusals.{Refusal, refusal, Seen}
use Rattle.cfg_tree.specs.declared.refusal_kind.RefusalKind.TheVariants.{UnknownVariable, NotWritable, BadPattern, TooLarge}
use Rattle.cfg_laws.proofs.Telling.{In, in_parts, alone, Silent, in_if}
use Rattle.cfg_laws.proofs.SilentNames.{layer_of_silent}

module _ (r : Refusal) where
  pub pattern_silent : ((at : Place) → refusal BadPattern at ≡ r → ⊥) → ((at : Place) → refusal TooLarge at ≡ r → ⊥) → (at : Place) (source : List ℕ) → Silent r (pattern_number at source)
  pattern_silent not_pattern not_limit at source = record {
    only = λ s h. in_if r (not (is_pattern source)) _ _ (λ k. not_pattern at (alone r (refusal BadPattern at) k))
        (in_if r (nat_le 64 (length s.patterns)) _ _ (λ k. not_limit at (alone r (refusal TooLarge at) k)) (λ k. k)) h;
    whole = λ s h. absurd h;
  }

  as_none : {B : Type 0} (at : Place) (rs : List Refusal) (s : Seen) (o : Option B) → (refusal NotWritable at ≡ r → ⊥) → (In r rs → ⊥) → In r (found_as NotWritable at rs s o).refusals → ⊥
  as_none at rs s None other none h = elim (in_parts r rs (refusal NotWritable at ∷ []) h) [
    | inl k ↦ none k
    | inr k ↦ other (alone r (refusal NotWritable at) k)
  ]
  as_none at rs s (Some b) other none h = none h

  found_none : {A B : Type 0} (at : Place) (f : A → Option B) (rs : List Refusal) (s : Seen) (o : Option A) → (refusal NotWritable at ≡ r → ⊥) → (In r rs → ⊥) →
      In r (found NotWritable at f rs s o).refusals → ⊥
  found_none at f rs s None other none h = none h
  found_none at f rs s (Some a) other none h = as_none at rs s (f a) other none h

  pub target_silent : ((at : Place) → refusal UnknownVariable at ≡ r → ⊥) → ((at : Place) → refusal NotWritable at ≡ r → ⊥) → (known : Known) (kind : RouteKind) (v : RawVariable) →
      Silent r (target_of known kind v)
  target_silent not_variable not_written known kind v = record {
    only = λ s h.
        let read = layer_of known v.at v.variable s in
        found_none v.at (target_in kind) read.refusals read.seen read.value (not_written v.at) (λ k. (layer_of_silent r not_variable known v.at v.variable).only s k) h;
    whole = λ s h. absurd h;
  }
