-- A refusal of one kind is none of another, and the bodies of blocks have none of some kinds.
use Rattle.std.proofs.Common.{◌≡◌, ℕ, List, Some, ap}
use Rattle.std.specs.Prelude.{position}
use Rattle.pv_values.specs.declared.refusal.Place.{Place}
use Rattle.cfg_tree.specs.declared.raw.Word.{Word}
use Rattle.cfg_tree.specs.declared.raw.RawCall.{RawCall}
use Rattle.cfg_tree.specs.declared.raw.RawCall.TheVariants as call
use Rattle.cfg_tree.specs.declared.raw.RawArg.{RawArg}
use Rattle.cfg_tree.specs.declared.raw.RawScript.{RawScript}
use Rattle.cfg_tree.specs.declared.raw.RouteKind.{RouteKind}
use Rattle.pv_values.specs.Kinds.{ArgForm, Plain, Expanding, ExpandingMaybe, ExpandingTwo, Replying, Counting, TakingText, TakingBlock, TakingPattern, TakingTable, TakingTablePattern, TakingRemovable, Continuing, Logging, row}
use Rattle.cfg_tree.specs.Functions.{is_same_block, block_number}
use Rattle.cfg_tree.specs.Names.{Known}
use Rattle.cfg_tree.specs.Checks.{call_in, bodies_of, known_of}
use Rattle.cfg_tree.specs.Refusals.{Refusal, refusal, accepted}
use Rattle.cfg_tree.specs.RefusalKinds.{refusal_number}
use Rattle.cfg_tree.specs.declared.refusal_kind.RefusalKind.{RefusalKind}
use Rattle.cfg_tree.specs.declared.refusal_kind.RefusalKind.TheVariants.{UnknownRoute, NotWritable, BadPattern, TooLarge}
use Rattle.cfg_laws.proofs.Telling.{In, Silent, same_tells, from_some_silent, accepted_silent}
use Rattle.cfg_laws.proofs.SilentNames.{part_of_silent}
use Rattle.cfg_laws.proofs.Targets.{pattern_silent, target_silent}
use Rattle.cfg_laws.proofs.Calling.{IsOther, FormTells, CallTells, call_tells}
use Rattle.cfg_laws.proofs.Walk.{body_tells}
use Rattle.cfg_laws.proofs.Whole.{bodies_silent}

pub apart : (n : ℕ) (at : Place) (kind : RefusalKind) → (refusal_number kind ≡ n → ⊥) → (p : Place) → refusal kind p ≡ record { kind = n; at = at } → ⊥
apart n at kind other p e = other (ap (λ (x : Refusal). x.kind) e)

-- no block and no pattern is told of
abbrev pub NoBlock : RouteKind → Word → Type 0
NoBlock kind w = ⊥

abbrev pub NoPattern : Place → List ℕ → Type 0
NoPattern at source = ⊥

nothing : (f : ArgForm) (args : List RawArg) → FormTells NoBlock NoPattern f args → ⊥
nothing (Plain f) args h = h
nothing (Expanding f) args h = h
nothing (ExpandingMaybe f) args h = h
nothing (ExpandingTwo f) args h = h
nothing (Replying make) args h = h
nothing (Counting make) args h = h
nothing (TakingText make) args h = h
nothing (TakingBlock kind make) args h = h.2
nothing (TakingPattern make) args h = h.2
nothing (TakingTable make) args h = h
nothing (TakingTablePattern make) args h = h.2.2
nothing (TakingRemovable make) args h = h
nothing (Continuing make) args h = h.4
nothing (Logging f) args h = h

pub no_call : (c : RawCall) → CallTells NoBlock NoPattern c → ⊥
no_call (call.Function w args) h = nothing (row h.0).form args h.2
no_call (call.Route w) h = h

-- of a kind that no body has
pub record IsOfNoBody (r : Refusal) : Type 0 where
  pub other : IsOther r
  pub route : (at : Place) → refusal UnknownRoute at ≡ r → ⊥
  pub written : (at : Place) → refusal NotWritable at ≡ r → ⊥
  pub pattern : (at : Place) → refusal BadPattern at ≡ r → ⊥
  pub limit : (at : Place) → refusal TooLarge at ≡ r → ⊥

module _ (r : Refusal) (none : IsOfNoBody r) where
  block_silent : (known : Known) (kind : RouteKind) (w : Word) → Silent r (block_number known kind w)
  block_silent known kind w = from_some_silent r (position (is_same_block (kind, Some w.text)) known.blocks) UnknownRoute w.at accepted (none.route w.at) (accepted_silent r)

  call_silent : (known : Known) (kind : RouteKind) (c : RawCall) → Silent r (call_in known kind c)
  call_silent known kind c = same_tells r (call_in known kind c) (no_call c) (λ h. absurd h)
      (call_tells r none.other known NoBlock NoPattern (block_silent known) (pattern_silent r none.pattern none.limit) kind c)

  pub no_body : (raw : RawScript) → In r (bodies_of raw).refusals → ⊥
  no_body raw = bodies_silent raw r (λ b.
      body_tells r (known_of raw) b.kind (λ _. ⊥) none.limit (call_silent (known_of raw) b.kind) (λ v. part_of_silent r none.other.variable (known_of raw) v.at v.variable)
      (λ w. pattern_silent r none.pattern none.limit w.at w.text) (λ v. target_silent r none.other.variable none.written (known_of raw) b.kind v) b.body)
