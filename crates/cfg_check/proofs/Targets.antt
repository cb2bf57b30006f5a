-- What an assignment writes, by the variable that it names.
use Rattle.std.proofs.Common.{◌≡◌, ◌++◌, ◌∷◌, [], Option, Some, None, refl, sym, ap, ◌∙◌, append_assoc}
use Rattle.std.specs.Prelude.{IfOk, option_map}
use Rattle.std.specs.declared.result.Result.{Result}
use Rattle.std.specs.declared.result.Result.TheVariants.{Ok, Err}
use Rattle.std.specs.declared.alloc.AllocError.{AllocError}
use Rattle.cfg_tree.specs.declared.raw.RawVariable.{RawVariable}
use Rattle.cfg_tree.specs.declared.raw.RouteKind.{RouteKind}
use Rattle.cfg_tree.specs.declared.script.Part.{Part}
use Rattle.cfg_tree.specs.declared.script.Part.TheViews.{roll-Part, out-Part, out-roll-Part}
use Rattle.cfg_tree.specs.declared.script.Target.{Target}
use Rattle.cfg_tree.specs.Names.{Known, Layer, layer_of, part_of}
use Rattle.cfg_tree.specs.Refusals.{refusal, Refusal, refused}
use Rattle.cfg_tree.specs.Checks.{target_in, target_of, found, found_as}
use Rattle.cfg_calls.specs.Following.{CheckState, Follows}
use Rattle.cfg_tree.specs.declared.refusal_kind.RefusalKind.TheVariants.{NotWritable}

-- the layer of a part that is made of one
layer_none : (l : Option Layer) → None ≡ option_map roll-Part l → l ≡ None
layer_none None h = refl
layer_none (Some x) h = cc

layer_some : (part : Part) (l : Option Layer) → Some part ≡ option_map roll-Part l → l ≡ Some (out-Part part)
layer_some part None h = cc
layer_some part (Some x) h =
    let same : part ≡ roll-Part x = cc in
    ap Some (sym (ap out-Part same ∙ out-roll-Part x))

pub target_none : (known : Known) (kind : RouteKind) (v : RawVariable) (a b : CheckState) (p : Option Part) → p ≡ None → Follows (part_of known v.at v.variable) a p b → Follows (target_of known kind v) a None b
target_none known kind v a b p is h =
    let read = layer_of known v.at v.variable a.seen in
    let none : read.value ≡ None = layer_none read.value (sym is ∙ h.value_is) in
    record {
      value_is = sym (ap (λ l. (found NotWritable v.at (target_in kind) read.refusals read.seen l).value) none);
      refusals_are = h.refusals_are ∙ sym (ap (λ l. a.refusals ++ (found NotWritable v.at (target_in kind) read.refusals read.seen l).refusals) none);
      seen_is = h.seen_is ∙ sym (ap (λ l. (found NotWritable v.at (target_in kind) read.refusals read.seen l).seen) none);
    }

pub target_some : (known : Known) (kind : RouteKind) (v : RawVariable) (a b : CheckState) (p : Option Part) (part : Part) (t : Target) → p ≡ Some part → Follows (part_of known v.at v.variable) a p b → Some t ≡ target_in kind (out-Part part) → Follows (target_of known kind v) a (Some t) b
target_some known kind v a b p part t there h is =
    let read = layer_of known v.at v.variable a.seen in
    let found_is : found NotWritable v.at (target_in kind) read.refusals read.seen read.value ≡ found_as NotWritable v.at read.refusals read.seen (Some t) =
    ap (found NotWritable v.at (target_in kind) read.refusals read.seen) (layer_some part read.value (sym there ∙ h.value_is)) ∙ ap (found_as NotWritable v.at read.refusals read.seen) (sym is) in
    record {
      value_is = sym (ap (λ o. o.value) found_is);
      refusals_are = h.refusals_are ∙ sym (ap (λ o. a.refusals ++ o.refusals) found_is);
      seen_is = h.seen_is ∙ sym (ap (λ o. o.seen) found_is);
    }

target_not : (known : Known) (kind : RouteKind) (v : RawVariable) (a b c : CheckState) (p : Option Part) (part : Part) (r : Option Target) → p ≡ Some part →
    Follows (part_of known v.at v.variable) a p b → None ≡ target_in kind (out-Part part) → Follows (refused NotWritable v.at) b r c → Follows (target_of known kind v) a r c
target_not known kind v a b c p part r there h is told =
    let read = layer_of known v.at v.variable a.seen in
    let found_is : found NotWritable v.at (target_in kind) read.refusals read.seen read.value ≡ found_as NotWritable v.at read.refusals read.seen None =
    ap (found NotWritable v.at (target_in kind) read.refusals read.seen) (layer_some part read.value (sym there ∙ h.value_is)) ∙ ap (found_as NotWritable v.at read.refusals read.seen) (sym is) in
    let x : Refusal = refusal NotWritable v.at in
    record {
      value_is = told.value_is ∙ sym (ap (λ o. o.value) found_is);
      refusals_are = told.refusals_are ∙ ap (λ rs. rs ++ x ∷ []) h.refusals_are ∙ append_assoc a.refusals read.refusals (x ∷ []) ∙ sym (ap (λ o. a.refusals ++ o.refusals) found_is);
      seen_is = told.seen_is ∙ h.seen_is ∙ sym (ap (λ o. o.seen) found_is);
    }

pub target_refused : (known : Known) (kind : RouteKind) (v : RawVariable) (a b c : CheckState) (p : Option Part) (part : Part) (r : Result (Option Target) AllocError) → p ≡ Some part →
    Follows (part_of known v.at v.variable) a p b → None ≡ target_in kind (out-Part part) → IfOk r (λ t. Follows (refused NotWritable v.at) b t c) → IfOk r (λ t. Follows (target_of known kind v) a t c)
target_refused known kind v a b c p part (Ok t) there h is told = target_not known kind v a b c p part t there h is told
target_refused known kind v a b c p part (Err e) there h is told = tt
