-- A route's name that has no block.
use Rattle.std.proofs.Common.{◌≡◌, ℕ, Bool, true, false, cond, List, [], ◌∷◌, map, Option, Some, None, refl, sym, ap, ◌∙◌, subst, inl, inr, arith}
use Rattle.std.specs.Prelude.{position}
use Rattle.std.specs.List.{find}
use Rattle.std.specs.Str.{bytes_eq}
use Rattle.std.proofs.lemmas.Slice.Eq.{bytes_eq-Decides}
use Rattle.pv_values.specs.Kinds.{row, functions, function_named}
use Rattle.pv_values.specs.declared.block.BlockKind.TheVariants.{Branch, Failure, Reply}
use Rattle.pv_values.specs.declared.refusal.Place.{Place}
use Rattle.pv_values.specs.declared.function_name.FuncName.{FuncName}
use Rattle.pv_values.specs.declared.function_name.FuncName.TheVariants as name
use Rattle.cfg_tree.specs.declared.raw.Word.{Word}
use Rattle.cfg_tree.specs.declared.raw.RawArg.{RawArg}
use Rattle.cfg_tree.specs.declared.raw.RawCall.{RawCall}
use Rattle.cfg_tree.specs.declared.raw.RawCall.TheVariants as call
use Rattle.cfg_tree.specs.declared.raw.RawBlock.{RawBlock}
use Rattle.cfg_tree.specs.declared.raw.RawScript.{RawScript}
use Rattle.cfg_tree.specs.declared.raw.RouteKind.{RouteKind}
use Rattle.cfg_tree.specs.declared.raw.RouteKind.TheVariants.{Route, Begins}
use Rattle.cfg_tree.specs.Functions.{is_same_block, block_number, pattern_number}
use Rattle.cfg_tree.specs.Checks.{body_in, blocks_of, block_name, known_of}
use Rattle.cfg_tree.specs.Refusals.{Refusal, refusal, accepted, from_some}
use Rattle.cfg_tree.specs.RefusalKinds.{refusal_number}
use Rattle.cfg_tree.specs.declared.refusal_kind.RefusalKind.{RefusalKind}
use Rattle.cfg_tree.specs.declared.refusal_kind.RefusalKind.TheVariants.{UnknownRoute, RouteTwice, UnknownFunction, WrongBlock, WrongArguments, UnknownVariable, NotWritable, BadParameter, BadPattern, TooLarge, NoRequestRoute, UnknownModule}
use Rattle.cfg_laws.specs.Causes.{Exactly, IsListed, Leaf, Calls, Reads, Matches, Assigns, HasBlock, NamesRoute, by_route, on_branch, on_failure, on_reply, continues, NamesNoBlock, body_leaves}
use Rattle.cfg_laws.proofs.Telling.{In, in_from_contains, contains_from_in, Tells, Silent, same_tells, from_some_tells, accepted_silent}
use Rattle.cfg_laws.proofs.Positions.{position_none, position_one, same_block, block_from}
use Rattle.cfg_laws.proofs.SilentNames.{part_of_silent}
use Rattle.cfg_laws.proofs.Calling.{IsOther, FormTells, CallTells, call_tells}
use Rattle.cfg_laws.proofs.Targets.{pattern_silent, target_silent}
use Rattle.cfg_laws.proofs.Walk.{Leaves, body_tells}
use Rattle.cfg_laws.proofs.Whole.{IsOfBodies, StandsThere, stands_listed}

-- ---- a block of a kind and name

pub block_mapped : (bs : List RawBlock) (y : RouteKind × Option (List ℕ)) → In y (map block_name bs) → (b : RawBlock) × In b bs × (block_name b ≡ y)
block_mapped [] y h = absurd h
block_mapped (b ∷ bs) y (inl e) = (b, inl refl, e)
block_mapped (b ∷ bs) y (inr h) = let k = block_mapped bs y h in (k.0, inr k.1, k.2)

pub mapped_block : (bs : List RawBlock) (b : RawBlock) → In b bs → In (block_name b) (map block_name bs)
mapped_block [] b h = h
mapped_block (c ∷ bs) b (inl e) = inl (ap block_name e)
mapped_block (c ∷ bs) b (inr h) = inr (mapped_block bs b h)

module _ (raw : RawScript) (kind : RouteKind) (name : List ℕ) where
  abbrev place : Option ℕ
  place = position (is_same_block (kind, Some name)) (known_of raw).blocks

  has_from_place : (n : ℕ) → place ≡ Some n → HasBlock raw kind name
  has_from_place n e =
      let one = position_one (is_same_block (kind, Some name)) (known_of raw).blocks n e in
      let same = same_block (kind, Some name) one.0 one.2 in
      let b = block_mapped (blocks_of raw.items) one.0 one.1 in
      record {
        block = b.0;
        is_there = contains_from_in b.0 (blocks_of raw.items) b.1;
        kind_is = ap (λ x. x.0) b.2 ∙ sym same.0;
        name_is = ap (λ x. x.1) b.2 ∙ sym same.1;
      }

  none_from_place : place ≡ None → HasBlock raw kind name → ⊥
  none_from_place e h =
      position_none (is_same_block (kind, Some name)) (known_of raw).blocks e (block_name h.block)
      (mapped_block (blocks_of raw.items) h.block (in_from_contains h.block (blocks_of raw.items) h.is_there))
      (block_from (kind, Some name) (block_name h.block) (sym h.kind_is) (sym h.name_is))

-- ---- functions by their names

by_test : (p : FuncName → Bool) (x f : FuncName) (rest : Option FuncName) (b : Bool) → p x ≡ b → cond b (Some x) rest ≡ Some f → (rest ≡ Some f → p f ≡ true) → p f ≡ true
by_test p x f rest true is e more = subst (λ y. p y ≡ true) (ap (λ (o : Option FuncName). elim o [ None ↦ x | Some y ↦ y ]) e) is
by_test p x f rest false is e more = more e

passes : (p : FuncName → Bool) (fs : List FuncName) (f : FuncName) → find p fs ≡ Some f → p f ≡ true
passes p [] f e = absurd (let g : None ≡ Some f = e in cc)
passes p (x ∷ fs) f e = by_test p x f (find p fs) (p x) refl e (passes p fs f)

pub named_text : (text : List ℕ) (f : FuncName) → function_named text ≡ Some f → text ≡ (row f).name
named_text text f e = (bytes_eq-Decides text (row f).name).0 (passes (λ g. bytes_eq text (row g).name) functions f e)

-- ---- what a name of a block tells

module _ (raw : RawScript) (at : Place) where
  abbrev here : Refusal
  here = refusal UnknownRoute at

  apart : (kind : RefusalKind) → (refusal_number kind ≡ 4 → ⊥) → (p : Place) → refusal kind p ≡ here → ⊥
  apart kind other p e = other (ap (λ x. x.kind) e)

  other_kinds : IsOther here
  other_kinds = record {
    function = apart UnknownFunction (λ n. omega (arith, n));
    block = apart WrongBlock (λ n. omega (arith, n));
    arguments = apart WrongArguments (λ n. omega (arith, n));
    variable = apart UnknownVariable (λ n. omega (arith, n));
  }

  of_bodies : IsOfBodies here
  of_bodies = record {
    parameter = apart BadParameter (λ n. omega (arith, n));
    limit = apart TooLarge (λ n. omega (arith, n));
    loaded = apart UnknownModule (λ n. omega (arith, n));
    twice = apart RouteTwice (λ n. omega (arith, n));
    request = apart NoRequestRoute (λ n. omega (arith, n));
  }

  -- the word stands here, and names no block
  abbrev Missing : RouteKind → Word → Type 0
  Missing kind w = (at ≡ w.at) × (HasBlock raw kind w.text → ⊥)

  by_place : (kind : RouteKind) (w : Word) (o : Option ℕ) → o ≡ place raw kind w.text → Tells here (from_some o UnknownRoute w.at accepted) (Missing kind w)
  by_place kind w None is = same_tells here (from_some None UnknownRoute w.at accepted)
      (λ e. (sym (ap (λ (x : Refusal). x.at) e), none_from_place raw kind w.text (sym is))) (λ m. ap (refusal UnknownRoute) (sym m.0))
      (from_some_tells here {A = ℕ} {B = ℕ} {P = λ _. ⊥} None UnknownRoute w.at accepted (accepted_silent here))
  by_place kind w (Some n) is = same_tells here (from_some (Some n) UnknownRoute w.at accepted)
      (λ h. absurd h) (λ m. m.1 (has_from_place raw kind w.text n (sym is))) (accepted_silent here n)

  names_tell : (kind : RouteKind) (w : Word) → Tells here (block_number (known_of raw) kind w) (Missing kind w)
  names_tell kind w = by_place kind w (place raw kind w.text) refl

  -- ---- what a leaf tells

  abbrev Nowhere : Place → List ℕ → Type 0
  Nowhere p source = ⊥

  abbrev Tell : RouteKind → Leaf → Type 0
  Tell kind (Calls c) = CallTells Missing Nowhere c
  Tell kind (Reads v) = ⊥
  Tell kind (Matches w) = ⊥
  Tell kind (Assigns v) = ⊥

  silent_patterns : (p : Place) (source : List ℕ) → Silent here (pattern_number p source)
  silent_patterns p source = pattern_silent here (apart BadPattern (λ n. omega (arith, n))) (apart TooLarge (λ n. omega (arith, n))) p source

  pub body_here : (b : RawBlock) → Leaves here (Tell b.kind) (body_in (known_of raw) b) (body_leaves b)
  body_here b = body_tells here (known_of raw) b.kind (Tell b.kind) of_bodies.limit
      (call_tells here other_kinds (known_of raw) Missing Nowhere names_tell silent_patterns b.kind)
      (λ v. part_of_silent here other_kinds.variable (known_of raw) v.at v.variable)
      (λ w. silent_patterns w.at w.text)
      (λ v. target_silent here other_kinds.variable (apart NotWritable (λ n. omega (arith, n))) (known_of raw) b.kind v) b.body

  -- ---- which calls name blocks

  abbrev Named : RawCall → Type 0
  Named c = (kind : RouteKind) × (w : Word) × NamesRoute c kind w × Missing kind w

  by_function : (g : FuncName) (f : Word) (args : List RawArg) → f.text ≡ (row g).name → FormTells Missing Nowhere (row g).form args → Named (call.Function f args)
  by_function name.TOnBranch f args e h = (Begins Branch, h.0, subst (λ a. NamesRoute (call.Function f a) (Begins Branch) h.0) (sym h.1) (on_branch f h.0 e), h.2)
  by_function name.TOnFailure f args e h = (Begins Failure, h.0, subst (λ a. NamesRoute (call.Function f a) (Begins Failure) h.0) (sym h.1) (on_failure f h.0 e), h.2)
  by_function name.TOnReply f args e h = (Begins Reply, h.0, subst (λ a. NamesRoute (call.Function f a) (Begins Reply) h.0) (sym h.1) (on_reply f h.0 e), h.2)
  by_function name.TContinue f args e h = (Route, h.2, subst (λ a. NamesRoute (call.Function f a) Route h.2) (sym h.3) (continues f h.2 h.0 h.1 e), h.4)
  by_function name.TCheckStatus f args e h = absurd h.2
  by_function name.ShtRmNameRe f args e h = absurd h.2.2
  by_function name.SlSendReply f args e h = absurd h
  by_function name.TNewtran f args e h = absurd h
  by_function name.TReply f args e h = absurd h
  by_function name.TRelay f args e h = absurd h
  by_function name.AppendBranch f args e h = absurd h
  by_function name.TSetFr f args e h = absurd h
  by_function name.TCheckTrans f args e h = absurd h
  by_function name.TIsCanceled f args e h = absurd h
  by_function name.TSuspend f args e h = absurd h
  by_function name.IsMethod f args e h = absurd h
  by_function name.HasTotag f args e h = absurd h
  by_function name.IsPresentHf f args e h = absurd h
  by_function name.RemoveHf f args e h = absurd h
  by_function name.AppendHf f args e h = absurd h
  by_function name.MfProcessMaxfwdHeader f args e h = absurd h
  by_function name.RecordRoute f args e h = absurd h
  by_function name.LooseRoute f args e h = absurd h
  by_function name.Xlog f args e h = absurd h
  by_function name.ShtReset f args e h = absurd h

  call_names : (c : RawCall) → CallTells Missing Nowhere c → Named c
  call_names (call.Route w) m = (Route, w, by_route w, m)
  call_names (call.Function f args) h = by_function h.0 f args (named_text f.text h.0 h.1) h.2

  name_calls : (c : RawCall) (kind : RouteKind) (w : Word) → NamesRoute c kind w → Missing kind w → CallTells Missing Nowhere c
  name_calls _ _ _ (by_route w) m = m
  name_calls _ _ _ (on_branch f w e) m = (name.TOnBranch, ap function_named e, (w, refl, m))
  name_calls _ _ _ (on_failure f w e) m = (name.TOnFailure, ap function_named e, (w, refl, m))
  name_calls _ _ _ (on_reply f w e) m = (name.TOnReply, ap function_named e, (w, refl, m))
  name_calls _ _ _ (continues f w i l e) m = (name.TContinue, ap function_named e, (i, l, w, refl, m))

  no_block : StandsThere raw Tell → NamesNoBlock raw at
  no_block (kind, Calls c, stands, t) =
      let n = call_names c t in
      record {
        kind = kind;
        call = c;
        stands = stands;
        named = n.0;
        word = n.1;
        names = n.2;
        place = n.3.0;
        missing = n.3.1;
      }
  no_block (kind, Reads v, stands, t) = absurd t
  no_block (kind, Matches w, stands, t) = absurd t
  no_block (kind, Assigns v, stands, t) = absurd t

  pub unknown_routes : Exactly (IsListed raw UnknownRoute at) (NamesNoBlock raw at)
  unknown_routes =
      let told = stands_listed raw here Tell of_bodies body_here in
      (λ h. no_block (told.0 h), λ n. told.1 (n.kind, Calls n.call, n.stands, name_calls n.call n.named n.word n.names (n.place, n.missing)))
