-- A text that is taken as a pattern and is none.
use Rattle.std.proofs.Common.{◌≡◌, ℕ, Bool, true, false, not, nat_le, if◌then◌else◌, List, [], ◌∷◌, ◌++◌, length, Some, refl, sym, ap, ◌∙◌, subst, inl, arith}
use Rattle.std.specs.Prelude.{position}
use Rattle.std.proofs.lemmas.Bool.{false≢true}
use Rattle.pv_values.specs.Matching.{is_pattern}
use Rattle.pv_values.specs.Kinds.{row, function_named}
use Rattle.pv_values.specs.declared.refusal.Place.{Place}
use Rattle.pv_values.specs.declared.function_name.FuncName.{FuncName}
use Rattle.pv_values.specs.declared.function_name.FuncName.TheVariants as name
use Rattle.cfg_tree.specs.declared.raw.Word.{Word}
use Rattle.cfg_tree.specs.declared.raw.RawArg.{RawArg}
use Rattle.cfg_tree.specs.declared.raw.RawCall.{RawCall}
use Rattle.cfg_tree.specs.declared.raw.RawCall.TheVariants as call
use Rattle.cfg_tree.specs.declared.raw.RawBlock.{RawBlock}
use Rattle.cfg_tree.specs.declared.raw.RawScript.{RawScript}
use Rattle.cfg_tree.specs.declared.raw.RouteKind.{RouteKind}
use Rattle.cfg_tree.specs.Functions.{is_same_block, block_number, pattern_number}
use Rattle.cfg_tree.specs.Checks.{body_in, known_of}
use Rattle.cfg_tree.specs.Refusals.{Refusal, refusal, Seen, Outcome, accepted, refused}
use Rattle.cfg_tree.specs.declared.refusal_kind.RefusalKind.TheVariants.{UnknownRoute, RouteTwice, UnknownFunction, WrongBlock, WrongArguments, UnknownVariable, NotWritable, BadParameter, BadPattern, TooLarge, NoRequestRoute, UnknownModule}
use Rattle.cfg_laws.specs.Causes.{Exactly, IsListed, Leaf, Calls, Reads, Matches, Assigns, TakesPattern, of_status, of_keys, HasPattern, compared, taken, IsNoPattern, body_leaves}
use Rattle.cfg_laws.proofs.Telling.{In, alone, Tells, Silent, accepted_silent, from_some_silent}
use Rattle.cfg_laws.proofs.SilentNames.{part_of_silent}
use Rattle.cfg_laws.proofs.Targets.{target_silent}
use Rattle.cfg_laws.proofs.Calling.{IsOther, FormTells, CallTells, call_tells}
use Rattle.cfg_laws.proofs.Routes.{named_text}
use Rattle.cfg_laws.proofs.Apart.{apart}
use Rattle.cfg_laws.proofs.Walk.{Leaves, body_tells}
use Rattle.cfg_laws.proofs.Whole.{IsOfBodies, StandsThere, stands_listed}

module _ (raw : RawScript) (at : Place) where
  abbrev here : Refusal
  here = refusal BadPattern at

  other_kinds : IsOther here
  other_kinds = record {
    function = apart 12 at UnknownFunction (λ n. omega (arith, n));
    block = apart 12 at WrongBlock (λ n. omega (arith, n));
    arguments = apart 12 at WrongArguments (λ n. omega (arith, n));
    variable = apart 12 at UnknownVariable (λ n. omega (arith, n));
  }

  of_bodies : IsOfBodies here
  of_bodies = record {
    parameter = apart 12 at BadParameter (λ n. omega (arith, n));
    limit = apart 12 at TooLarge (λ n. omega (arith, n));
    loaded = apart 12 at UnknownModule (λ n. omega (arith, n));
    twice = apart 12 at RouteTwice (λ n. omega (arith, n));
    request = apart 12 at NoRequestRoute (λ n. omega (arith, n));
  }

  -- the text stands here, and is no pattern
  abbrev Bad : Place → List ℕ → Type 0
  Bad p source = (at ≡ p) × (is_pattern source ≡ false)

  abbrev NoBlock : RouteKind → Word → Type 0
  NoBlock kind w = ⊥

  within : (b : Bool) (x y : Outcome ℕ) → In here (if b then x else y).refusals → (In here x.refusals → ⊥) → (In here y.refusals → ⊥) → ⊥
  within true x y h t u = t h
  within false x y h t u = u h

  bad_only : (p : Place) (source : List ℕ) (s : Seen) (b : Bool) → is_pattern source ≡ b →
      In here (if not b then refused BadPattern p s else if nat_le 64 (length s.patterns) then refused TooLarge p s else accepted (length s.patterns) (record s { patterns = s.patterns ++ source ∷ [] })).refusals →
      Bad p source
  bad_only p source s false is h = (sym (ap (λ (x : Refusal). x.at) (alone here (refusal BadPattern p) h)), is)
  bad_only p source s true is h = absurd (within (nat_le 64 (length s.patterns)) _ _ h (λ k. apart 12 at TooLarge (λ n. omega (arith, n)) p (alone here (refusal TooLarge p) k)) (λ k. k))

  bad_whole : (p : Place) (source : List ℕ) (s : Seen) (b : Bool) → is_pattern source ≡ b → Bad p source →
      In here (if not b then refused BadPattern p s else if nat_le 64 (length s.patterns) then refused TooLarge p s else accepted (length s.patterns) (record s { patterns = s.patterns ++ source ∷ [] })).refusals
  bad_whole p source s false is bad = inl (ap (refusal BadPattern) (sym bad.0))
  bad_whole p source s true is bad = absurd (false≢true (sym bad.1 ∙ is))

  patterns_tell : (p : Place) (source : List ℕ) → Tells here (pattern_number p source) (Bad p source)
  patterns_tell p source = record {
    only = λ s h. bad_only p source s (is_pattern source) refl h;
    whole = λ s bad. bad_whole p source s (is_pattern source) refl bad;
  }

  abbrev Tell : RouteKind → Leaf → Type 0
  Tell kind (Calls c) = CallTells NoBlock Bad c
  Tell kind (Reads v) = ⊥
  Tell kind (Matches w) = Bad w.at w.text
  Tell kind (Assigns v) = ⊥

  blocks_silent : (kind : RouteKind) (w : Word) → Silent here (block_number (known_of raw) kind w)
  blocks_silent kind w =
      from_some_silent here (position (is_same_block (kind, Some w.text)) (known_of raw).blocks) UnknownRoute w.at accepted (apart 12 at UnknownRoute (λ n. omega (arith, n)) w.at) (accepted_silent here)

  body_here : (b : RawBlock) → Leaves here (Tell b.kind) (body_in (known_of raw) b) (body_leaves b)
  body_here b = body_tells here (known_of raw) b.kind (Tell b.kind) of_bodies.limit
      (call_tells here other_kinds (known_of raw) NoBlock Bad blocks_silent patterns_tell b.kind)
      (λ v. part_of_silent here other_kinds.variable (known_of raw) v.at v.variable)
      (λ w. patterns_tell w.at w.text)
      (λ v. target_silent here other_kinds.variable (apart 12 at NotWritable (λ n. omega (arith, n))) (known_of raw) b.kind v) b.body

  -- ---- which calls take patterns

  abbrev Taken : RawCall → Type 0
  Taken c = (p : Place) × (source : List ℕ) × TakesPattern c p source × Bad p source

  by_function : (g : FuncName) (f : Word) (args : List RawArg) → f.text ≡ (row g).name → FormTells NoBlock Bad (row g).form args → Taken (call.Function f args)
  by_function name.TCheckStatus f args e h = (h.0.at, h.0.text, subst (λ a. TakesPattern (call.Function f a) h.0.at h.0.text) (sym h.1) (of_status f h.0 e), h.2)
  by_function name.ShtRmNameRe f args e h =
      let split = h.2.0 in
      (h.0.at, split.1, subst (λ a. TakesPattern (call.Function f a) h.0.at split.1) (sym h.1) (of_keys f h.0 split.0 split.1 e h.2.1), h.2.2)
  by_function name.TOnBranch f args e h = absurd h.2
  by_function name.TOnFailure f args e h = absurd h.2
  by_function name.TOnReply f args e h = absurd h.2
  by_function name.TContinue f args e h = absurd h.4
  by_function name.SlSendReply f args e h = absurd h
  by_function name.TNewtran f args e h = absurd h
  by_function name.TReply f args e h = absurd h
  by_function name.TRelay f args e h = absurd h
  by_function name.AppendBranch f args e h = absurd h
  by_function name.TSetFr f args e h = absurd h
  by_function name.TCheckTrans f args e h = absurd h
  by_function name.TIsCanceled f args e h = absurd h
  by_function name.TSuspend f args e h = absurd h
  by_function name.IsMethod f args e h = absurd h
  by_function name.HasTotag f args e h = absurd h
  by_function name.IsPresentHf f args e h = absurd h
  by_function name.RemoveHf f args e h = absurd h
  by_function name.AppendHf f args e h = absurd h
  by_function name.MfProcessMaxfwdHeader f args e h = absurd h
  by_function name.RecordRoute f args e h = absurd h
  by_function name.LooseRoute f args e h = absurd h
  by_function name.Xlog f args e h = absurd h
  by_function name.ShtReset f args e h = absurd h

  call_takes : (c : RawCall) → CallTells NoBlock Bad c → Taken c
  call_takes (call.Route w) h = absurd h
  call_takes (call.Function f args) h = by_function h.0 f args (named_text f.text h.0 h.1) h.2

  takes_call : (c : RawCall) (p : Place) (source : List ℕ) → TakesPattern c p source → Bad p source → CallTells NoBlock Bad c
  takes_call _ _ _ (of_status f w e) bad = (name.TCheckStatus, ap function_named e, (w, refl, bad))
  takes_call _ _ _ (of_keys f w table pattern e split) bad = (name.ShtRmNameRe, ap function_named e, (w, refl, ((table, pattern), split, bad)))

  has_tells : (kind : RouteKind) (l : Leaf) (p : Place) (source : List ℕ) → HasPattern l p source → Bad p source → Tell kind l
  has_tells kind _ _ _ (compared w) bad = bad
  has_tells kind _ _ _ (taken c p source takes) bad = takes_call c p source takes bad

  is_none : StandsThere raw Tell → IsNoPattern raw at
  is_none (kind, Calls c, stands, t) =
      let k = call_takes c t in
      record {
        kind = kind;
        leaf = Calls c;
        stands = stands;
        source = k.1;
        has = subst (λ p. HasPattern (Calls c) p k.1) (sym k.3.0) (taken c k.0 k.1 k.2);
        bad = k.3.1;
      }
  is_none (kind, Reads v, stands, t) = absurd t
  is_none (kind, Matches w, stands, t) = record {
    kind = kind;
    leaf = Matches w;
    stands = stands;
    source = w.text;
    has = subst (λ p. HasPattern (Matches w) p w.text) (sym t.0) (compared w);
    bad = t.1;
  }
  is_none (kind, Assigns v, stands, t) = absurd t

  pub bad_patterns : Exactly (IsListed raw BadPattern at) (IsNoPattern raw at)
  bad_patterns =
      let told = stands_listed raw here Tell of_bodies body_here in
      (λ h. is_none (told.0 h), λ n. told.1 (n.kind, n.leaf, n.stands, has_tells n.kind n.leaf at n.source n.has (refl, n.bad)))
