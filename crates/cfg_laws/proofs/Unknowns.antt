-- What isn't known, in a call and elsewhere.
use Rattle.std.proofs.Common.{◌≡◌, ◌⊎◌, ℕ, Bool, true, false, if◌then◌else◌, List, [], ◌∷◌, Option, Some, None, refl, sym, ap, ◌∙◌, subst, inl, inr, arith}
use Rattle.std.specs.Prelude.{position}
use Rattle.std.specs.List.{list_any}
use Rattle.std.specs.Fmt.{signed_decimal}
use Rattle.std.specs.Str.{bytes_eq, str_eq_ignore_ascii_case}
use Rattle.pv_values.specs.declared.refusal.Place.{Place}
use Rattle.pv_values.specs.declared.function.Func.{Func}
use Rattle.pv_values.specs.declared.function_name.FuncName.{FuncName}
use Rattle.pv_values.specs.Kinds.{ArgForm, Plain, Expanding, ExpandingMaybe, ExpandingTwo, Replying, Counting, TakingText, TakingBlock, TakingPattern, TakingTable, TakingTablePattern, TakingRemovable, Continuing, Logging, row, function_named}
use Rattle.cfg_tree.specs.declared.raw.Word.{Word}
use Rattle.cfg_tree.specs.declared.raw.RawVariable.{RawVariable}
use Rattle.cfg_tree.specs.declared.raw.RawArg.{RawArg}
use Rattle.cfg_tree.specs.declared.raw.RawArg.TheVariants as arg
use Rattle.cfg_tree.specs.declared.raw.RawCall.{RawCall}
use Rattle.cfg_tree.specs.declared.raw.RawCall.TheVariants as call
use Rattle.cfg_tree.specs.declared.raw.RawBlock.{RawBlock}
use Rattle.cfg_tree.specs.declared.raw.RawScript.{RawScript}
use Rattle.cfg_tree.specs.declared.raw.RouteKind.{RouteKind}
use Rattle.cfg_tree.specs.declared.raw.RouteKind.TheVariants.{Route, Begins}
use Rattle.cfg_tree.specs.declared.script.Part.TheOpen.{Part-F}
use Rattle.cfg_tree.specs.declared.script.Part.TheViews.{roll-Part}
use Rattle.cfg_tree.specs.declared.script.Expr.TheOpen.{Expr-F}
use Rattle.cfg_tree.specs.declared.script.Expr.TheViews.{roll-Expr}
use Rattle.cfg_tree.specs.Names.{Known, table_and_key, layer_of, part_of}
use Rattle.cfg_tree.specs.Functions.{FuncWith, is_same_block, expanded_arg, between, number_arg, block_number, table_number, pattern_number, no_arg, one_arg, two_args, expanding, expanding_maybe, with_literal, needed_fields, logging, continuing, reads, form, may_stand, function_call}
use Rattle.cfg_tree.specs.Checks.{call_in, target_in, found_as, found, target_of, body_in, known_of}
use Rattle.cfg_tree.specs.Refusals.{Refusal, refusal, Seen, Checked, accepted, refused, one, both, from_some, unless}
use Rattle.cfg_tree.specs.declared.refusal_kind.RefusalKind.TheVariants.{UnknownRoute, RouteTwice, UnknownFunction, WrongBlock, WrongArguments, UnknownVariable, NotWritable, BadParameter, BadPattern, TooLarge, NoRequestRoute, UnknownModule}
use Rattle.cfg_laws.specs.Causes.{Exactly, IsListed, Calls, Assigns, body_leaves}
use Rattle.cfg_laws.specs.Known.{among, ArgUnknown, TableUnknown, FormUnknown, LeafUnknown, HasUnknown}
use Rattle.cfg_laws.proofs.Telling.{In, in_front, in_parts, alone, Tells, Silent, same_tells, accepted_silent, refused_silent, one_tells, both_tells, from_some_silent, unless_tells, if_silent}
use Rattle.cfg_laws.proofs.Targets.{pattern_silent}
use Rattle.cfg_laws.proofs.Judged.{expansion_judged, layer_of_judged, part_of_judged, place_judged, accepted_judged, and_true}
use Rattle.cfg_laws.proofs.Apart.{apart}
use Rattle.cfg_laws.proofs.Walk.{Leaves, body_tells}
use Rattle.cfg_laws.proofs.Whole.{IsOfBodies, stands_listed}

first_arg : List RawArg → RawArg → RawArg
first_arg [] d = d
first_arg (a ∷ more) d = a

rest_args : List RawArg → List RawArg
rest_args [] = []
rest_args (a ∷ more) = more

firsts : (a b : RawArg) (xs ys : List RawArg) → a ∷ xs ≡ b ∷ ys → a ≡ b
unfolding first_arg
firsts a b xs ys e = ap (λ l. first_arg l a) e

rests : (a b : RawArg) (xs ys : List RawArg) → a ∷ xs ≡ b ∷ ys → xs ≡ ys
unfolding rest_args
rests a b xs ys e = ap rest_args e

word_in : RawArg → Word → Word
word_in (arg.String w) d = w
word_in (arg.Number n) d = d
word_in (arg.Variable v) d = d

words : (w v : Word) → arg.String w ≡ arg.String v → w ≡ v
unfolding word_in
words w v e = ap (λ a. word_in a w) e

module _ (raw : RawScript) (at : Place) where
  abbrev here : Refusal
  here = refusal UnknownVariable at

  abbrev known : Known
  known = known_of raw

  abbrev Unknown : RawArg → Type 0
  Unknown = ArgUnknown raw at

  wrong : (p : Place) → refusal WrongArguments p ≡ here → ⊥
  wrong = apart 9 at WrongArguments (λ n. omega (arith, n))

  never : {A : Type 0} {P : Type 0} (m : Checked A) → Silent here m → (P → ⊥) → Tells here m P
  never m t none = same_tells here m (λ h. absurd h) none t

  no_args : {P : Type 0} (p : Place) → (P → ⊥) → Tells here (refused {A = FuncWith} WrongArguments p) P
  no_args p none = never (refused WrongArguments p) (refused_silent here WrongArguments p (wrong p)) none

  arg_tells : (x : RawArg) → Tells here (expanded_arg known x) (Unknown x)
  arg_tells (arg.String w) = expansion_judged at w.at known w.text
  arg_tells (arg.Number n) = accepted_silent here (roll-Part (Part-F.Text (signed_decimal n)) ∷ [])
  arg_tells (arg.Variable v) = one_tells here (λ p. p ∷ []) (part_of known v.at v.variable) (part_of_judged at v.at known v.variable)

  table_tells : (w : Word) (name : List ℕ) → Tells here (table_number known w.at name) (TableUnknown raw at w name)
  table_tells w name = same_tells here (table_number known w.at name) (λ h. (h.0, sym (and_true (among name known.tables)) ∙ h.1)) (λ h. (h.0, and_true (among name known.tables) ∙ h.1))
      (place_judged at w.at name known.tables (position (bytes_eq name) known.tables) refl accepted true (λ t. accepted_judged at w.at t))

  block_silent : (kind : RouteKind) (w : Word) → Silent here (block_number known kind w)
  block_silent kind w =
      from_some_silent here (position (is_same_block (kind, Some w.text)) known.blocks) UnknownRoute w.at accepted (apart 9 at UnknownRoute (λ n. omega (arith, n)) w.at) (accepted_silent here)

  patterns_silent : (p : Place) (source : List ℕ) → Silent here (pattern_number p source)
  patterns_silent p source = pattern_silent here (apart 9 at BadPattern (λ n. omega (arith, n))) (apart 9 at TooLarge (λ n. omega (arith, n))) p source

  -- ---- arguments, by their number

  one_form : (next : RawArg → Checked FuncWith) (Q : RawArg → Type 0) → ((x : RawArg) → Tells here (next x) (Q x)) → (p : Place) (args : List RawArg) →
      Tells here (from_some (one_arg args) WrongArguments p next) ((x : RawArg) × (args ≡ x ∷ []) × Q x)
  one_form next Q is p [] = no_args p (λ h. let e : [] ≡ h.0 ∷ [] = h.1 in absurd cc)
  one_form next Q is p (a ∷ []) = same_tells here (next a) (λ q. (a, refl, q)) (λ h. subst Q (sym (firsts a h.0 [] [] h.1)) h.2) (is a)
  one_form next Q is p (a ∷ b ∷ more) = no_args p (λ h. let e : a ∷ b ∷ more ≡ h.0 ∷ [] = h.1 in absurd cc)

  two_form : (next : RawArg × RawArg → Checked FuncWith) (Q : RawArg → RawArg → Type 0) → ((x y : RawArg) → Tells here (next (x, y)) (Q x y)) → (p : Place) (args : List RawArg) →
      Tells here (from_some (two_args args) WrongArguments p next) ((x : RawArg) × (y : RawArg) × (args ≡ x ∷ y ∷ []) × Q x y)
  two_form next Q is p [] = no_args p (λ h. let e : [] ≡ h.0 ∷ h.1 ∷ [] = h.2 in absurd cc)
  two_form next Q is p (a ∷ []) = no_args p (λ h. let e : a ∷ [] ≡ h.0 ∷ h.1 ∷ [] = h.2 in absurd cc)
  two_form next Q is p (a ∷ b ∷ []) = same_tells here (next (a, b)) (λ q. (a, b, refl, q))
      (λ h. subst (λ x. Q x b) (sym (firsts a h.0 (b ∷ []) (h.1 ∷ []) h.2)) (subst (λ y. Q h.0 y) (sym (firsts b h.1 [] [] (rests a h.0 (b ∷ []) (h.1 ∷ []) h.2))) h.3)) (is a b)
  two_form next Q is p (a ∷ b ∷ c ∷ more) = no_args p (λ h. let e : a ∷ b ∷ c ∷ more ≡ h.0 ∷ h.1 ∷ [] = h.2 in absurd cc)

  word_form : (read : Known → Place → Word → Checked Func) (Q : Word → Type 0) → ((p : Place) (w : Word) → Tells here (read known p w) (Q w)) → (p : Place) (args : List RawArg) →
      Tells here (with_literal read known p args) ((w : Word) × (args ≡ arg.String w ∷ []) × Q w)
  word_form read Q is p [] = no_args p (λ h. let e : [] ≡ arg.String h.0 ∷ [] = h.1 in absurd cc)
  word_form read Q is p (arg.String w ∷ []) = same_tells here (with_literal read known p (arg.String w ∷ [])) (λ q. (w, refl, q))
      (λ h. subst Q (sym (words w h.0 (firsts (arg.String w) (arg.String h.0) [] [] h.1))) h.2) (one_tells here (λ f. (f, [])) (read known p w) (is p w))
  word_form read Q is p (arg.Number n ∷ []) = no_args p (λ h. let e : arg.Number n ∷ [] ≡ arg.String h.0 ∷ [] = h.1 in absurd cc)
  word_form read Q is p (arg.Variable v ∷ []) = no_args p (λ h. let e : arg.Variable v ∷ [] ≡ arg.String h.0 ∷ [] = h.1 in absurd cc)
  word_form read Q is p (a ∷ b ∷ more) = no_args p (λ h. let e : a ∷ b ∷ more ≡ arg.String h.0 ∷ [] = h.1 in absurd cc)

  word_silent : (read : Known → Place → Word → Checked Func) → ((p : Place) (w : Word) → Silent here (read known p w)) → (p : Place) (args : List RawArg) → Silent here (with_literal read known p args)
  word_silent read is p args = same_tells here (with_literal read known p args) (λ h. h.2) (λ h. absurd h) (word_form read (λ w. ⊥) is p args)

  -- ---- each form

  expanding_tells : (f : Func) (p : Place) (args : List RawArg) → Tells here (expanding f known p args) ((x : RawArg) × (args ≡ x ∷ []) × Unknown x)
  expanding_tells f p args = one_form _ Unknown (λ x. one_tells here (λ q. (f, q ∷ [])) (expanded_arg known x) (arg_tells x)) p args

  maybe_tells : (f : Func) (p : Place) (args : List RawArg) → Tells here (expanding_maybe f known p args) ((x : RawArg) × (args ≡ x ∷ []) × Unknown x)
  maybe_tells f p [] = never (accepted (f, [])) (accepted_silent here (f, [])) (λ h. let e : [] ≡ h.0 ∷ [] = h.1 in absurd cc)
  maybe_tells f p (a ∷ more) = expanding_tells f p (a ∷ more)

  code_tells : {Q : Type 0} (o : Option ℕ) (next : ℕ → Checked FuncWith) (p : Place) → ((n : ℕ) → Tells here (next n) Q) →
      Tells here (from_some o WrongArguments p next) ((code : ℕ) × (o ≡ Some code) × Q)
  code_tells None next p is = no_args p (λ h. let e : None ≡ Some h.0 = h.1 in absurd cc)
  code_tells (Some n) next p is = same_tells here (next n) (λ q. (n, refl, q)) (λ h. h.2) (is n)

  left : {P : Type 0} → P ⊎ ⊥ → P
  left (inl q) = q
  left (inr h) = absurd h

  split_tells : (make : ℕ → ℕ → Func) (p : Place) (w : Word) (o : Option (List ℕ × List ℕ)) →
      Tells here (from_some o WrongArguments p (λ split. both make (table_number known w.at split.0) (pattern_number w.at split.1)))
      ((split : List ℕ × List ℕ) × (o ≡ Some split) × TableUnknown raw at w split.0)
  split_tells make p w None = never (refused WrongArguments p) (refused_silent here WrongArguments p (wrong p)) (λ h. let e : None ≡ Some h.0 = h.1 in absurd cc)
  split_tells make p w (Some split) =
      same_tells here (both make (table_number known w.at split.0) (pattern_number w.at split.1)) (λ h. (split, refl, left h))
      (λ h. inl (subst (λ (s : List ℕ × List ℕ). TableUnknown raw at w s.0) (sym (ap (λ (o : Option (List ℕ × List ℕ)). elim o [ None ↦ split | Some s ↦ s ]) h.1)) h.2))
      (both_tells here make (table_number known w.at split.0) (pattern_number w.at split.1) (table_tells w split.0) (patterns_silent w.at split.1))

  abbrev Continues : List RawArg → Type 0
  Continues args = (i : RawArg) × (l : RawArg) × (w : Word) × (args ≡ i ∷ l ∷ arg.String w ∷ []) × (Unknown i ⊎ Unknown l)

  continuing_tells : (make : ℕ → Func) (p : Place) (args : List RawArg) → Tells here (continuing make known p args) (Continues args)
  continuing_tells make p [] = no_args p (λ h. let e : [] ≡ h.0 ∷ h.1 ∷ arg.String h.2 ∷ [] = h.3 in absurd cc)
  continuing_tells make p (a ∷ []) = no_args p (λ h. let e : a ∷ [] ≡ h.0 ∷ h.1 ∷ arg.String h.2 ∷ [] = h.3 in absurd cc)
  continuing_tells make p (a ∷ b ∷ []) = no_args p (λ h. let e : a ∷ b ∷ [] ≡ h.0 ∷ h.1 ∷ arg.String h.2 ∷ [] = h.3 in absurd cc)
  continuing_tells make p (a ∷ b ∷ arg.String w ∷ []) =
      same_tells here (continuing make known p (a ∷ b ∷ arg.String w ∷ [])) (λ q. (a, b, w, refl, left q))
      (λ h.
      let e = rests a h.0 (b ∷ arg.String w ∷ []) (h.1 ∷ arg.String h.2 ∷ []) h.3 in
      inl (subst (λ x. Unknown x ⊎ Unknown b) (sym (firsts a h.0 (b ∷ arg.String w ∷ []) (h.1 ∷ arg.String h.2 ∷ []) h.3))
      (subst (λ y. Unknown h.0 ⊎ Unknown y) (sym (firsts b h.1 (arg.String w ∷ []) (arg.String h.2 ∷ []) e)) h.4)))
      (both_tells here (λ ps b. (make b, ps)) (both (λ q r. q ∷ r ∷ []) (expanded_arg known a) (expanded_arg known b)) (block_number known Route w)
      (both_tells here (λ q r. q ∷ r ∷ []) (expanded_arg known a) (expanded_arg known b) (arg_tells a) (arg_tells b)) (block_silent Route w))
  continuing_tells make p (a ∷ b ∷ arg.Number n ∷ []) = no_args p (λ h. let e : a ∷ b ∷ arg.Number n ∷ [] ≡ h.0 ∷ h.1 ∷ arg.String h.2 ∷ [] = h.3 in absurd cc)
  continuing_tells make p (a ∷ b ∷ arg.Variable v ∷ []) = no_args p (λ h. let e : a ∷ b ∷ arg.Variable v ∷ [] ≡ h.0 ∷ h.1 ∷ arg.String h.2 ∷ [] = h.3 in absurd cc)
  continuing_tells make p (a ∷ b ∷ c ∷ d ∷ more) = no_args p (λ h. let e : a ∷ b ∷ c ∷ d ∷ more ≡ h.0 ∷ h.1 ∷ arg.String h.2 ∷ [] = h.3 in absurd cc)

  abbrev Logs : List RawArg → Type 0
  Logs args = ((x : RawArg) × (args ≡ x ∷ []) × Unknown x) ⊎ ((level : Word) × (x : RawArg) × (args ≡ arg.String level ∷ x ∷ []) × Unknown x)

  no_log : (args : List RawArg) → ((x : RawArg) → args ≡ x ∷ [] → ⊥) → ((w : Word) (x : RawArg) → args ≡ arg.String w ∷ x ∷ [] → ⊥) → Logs args → ⊥
  no_log args one two (inl h) = one h.0 h.1
  no_log args one two (inr h) = two h.0 h.1 h.2

  log_one : (a : RawArg) → Logs (a ∷ []) → Unknown a
  log_one a (inl h) = subst Unknown (sym (firsts a h.0 [] [] h.1)) h.2
  log_one a (inr h) = absurd (let e : a ∷ [] ≡ arg.String h.0 ∷ h.1 ∷ [] = h.2 in cc)

  log_two : (w : Word) (a : RawArg) → Logs (arg.String w ∷ a ∷ []) → Unknown a
  log_two w a (inl h) = absurd (let e : arg.String w ∷ a ∷ [] ≡ h.0 ∷ [] = h.1 in cc)
  log_two w a (inr h) = subst Unknown (sym (firsts a h.1 [] [] (rests (arg.String w) (arg.String h.0) (a ∷ []) (h.1 ∷ []) h.2))) h.3

  logging_tells : (f : Func) (p : Place) (args : List RawArg) → Tells here (logging f known p args) (Logs args)
  logging_tells f p [] = no_args p (no_log [] (λ x e. cc) (λ w x e. cc))
  logging_tells f p (a ∷ []) = same_tells here (expanding f known p (a ∷ [])) (λ h. inl h) (λ h. (a, refl, log_one a h)) (expanding_tells f p (a ∷ []))
  logging_tells f p (arg.String w ∷ a ∷ []) = same_tells here (expanding f known p (a ∷ []))
      (λ h. inr (w, a, refl, subst Unknown (sym (firsts a h.0 [] [] h.1)) h.2)) (λ h. (a, refl, log_two w a h)) (expanding_tells f p (a ∷ []))
  logging_tells f p (arg.String w ∷ a ∷ b ∷ more) = never (expanding f known p (a ∷ b ∷ more))
      (refused_silent here WrongArguments p (wrong p))
      (no_log (arg.String w ∷ a ∷ b ∷ more) (λ x e. cc) (λ v x e. cc))
  logging_tells f p (arg.Number n ∷ a ∷ more) = no_args p (no_log (arg.Number n ∷ a ∷ more) (λ x e. cc) (λ w x e. cc))
  logging_tells f p (arg.Variable v ∷ a ∷ more) = no_args p (no_log (arg.Variable v ∷ a ∷ more) (λ x e. cc) (λ w x e. cc))

  form_tells : (f : ArgForm) (p : Place) (args : List RawArg) → Tells here (reads f known p args) (FormUnknown raw at f args)
  form_tells (Plain f) p args = from_some_silent here (no_arg args) WrongArguments p _ (wrong p) (λ n. accepted_silent here (f, []))
  form_tells (Expanding f) p args = expanding_tells f p args
  form_tells (ExpandingMaybe f) p args = maybe_tells f p args
  form_tells (ExpandingTwo f) p args = two_form _ (λ x y. Unknown x ⊎ Unknown y)
      (λ x y. both_tells here (λ q r. (f, q ∷ r ∷ [])) (expanded_arg known x) (expanded_arg known y) (arg_tells x) (arg_tells y)) p args
  form_tells (Replying make) p args = two_form _ (λ c x. (code : ℕ) × (between 100 699 (number_arg c) ≡ Some code) × Unknown x)
      (λ c x. code_tells (between 100 699 (number_arg c)) _ p (λ n. one_tells here (λ q. (make n, q ∷ [])) (expanded_arg known x) (arg_tells x))) p args
  form_tells (Counting make) p args = from_some_silent here (one_arg args) WrongArguments p _ (wrong p) (λ n.
      from_some_silent here (between 1 255 (number_arg n)) WrongArguments p _ (wrong p) (λ n. accepted_silent here (make n, [])))
  form_tells (TakingText make) p args = word_silent (λ known p w. accepted (make w.text)) (λ p w. accepted_silent here (make w.text)) p args
  form_tells (TakingBlock kind make) p args =
      word_silent (λ known p w. one make (block_number known (Begins kind) w)) (λ p w. one_tells here make (block_number known (Begins kind) w) (block_silent (Begins kind) w)) p args
  form_tells (TakingPattern make) p args =
      word_silent (λ known p w. one make (pattern_number w.at w.text)) (λ p w. one_tells here make (pattern_number w.at w.text) (patterns_silent w.at w.text)) p args
  form_tells (TakingTable make) p args = word_form (λ known p w. one make (table_number known w.at w.text)) (λ w. TableUnknown raw at w w.text)
      (λ p w. one_tells here make (table_number known w.at w.text) (table_tells w w.text)) p args
  form_tells (TakingTablePattern make) p args =
      word_form (λ known p w. from_some (table_and_key w.text) WrongArguments p (λ split. both make (table_number known w.at split.0) (pattern_number w.at split.1)))
      (λ w. (split : List ℕ × List ℕ) × (table_and_key w.text ≡ Some split) × TableUnknown raw at w split.0) (λ p w. split_tells make p w (table_and_key w.text)) p args
  form_tells (TakingRemovable make) p args =
      word_silent (λ known p w. if list_any (str_eq_ignore_ascii_case w.text) needed_fields then refused WrongArguments p else accepted (make w.text)) (λ p w.
      if_silent here (list_any (str_eq_ignore_ascii_case w.text) needed_fields) (refused WrongArguments p) (accepted (make w.text)) (refused_silent here WrongArguments p (wrong p)) (accepted_silent here (make w.text))) p args
  form_tells (Continuing make) p args = continuing_tells make p args
  form_tells (Logging f) p args = logging_tells f p args

  -- ---- calls

  standing : (p : Place) (b : Bool) (x : Refusal) → (if b then None else Some (refusal WrongBlock p)) ≡ Some x → x ≡ here → ⊥
  standing p true x e is = let f : None ≡ Some x = e in cc
  standing p false x e is = apart 9 at WrongBlock (λ n. omega (arith, n)) p (ap (λ (o : Option Refusal). elim o [ None ↦ refusal WrongBlock p | Some y ↦ y ]) e ∙ is)

  named_tells : (kind : RouteKind) (w : Word) (args : List RawArg) (o : Option FuncName) →
      Tells here (from_some o UnknownFunction w.at (λ f. unless (if may_stand f kind then None else Some (refusal WrongBlock w.at)) (form f known w.at args)))
      ((f : FuncName) × (o ≡ Some f) × FormUnknown raw at (row f).form args)
  named_tells kind w args None =
      never (refused UnknownFunction w.at) (refused_silent here UnknownFunction w.at (apart 9 at UnknownFunction (λ n. omega (arith, n)) w.at)) (λ h. let e : None ≡ Some h.0 = h.1 in absurd cc)
  named_tells kind w args (Some f) =
      same_tells here _ (λ q. (f, refl, q))
      (λ h. subst (λ (g : FuncName). FormUnknown raw at (row g).form args) (sym (ap (λ (o : Option FuncName). elim o [ None ↦ f | Some g ↦ g ]) h.1)) h.2)
      (unless_tells here (if may_stand f kind then None else Some (refusal WrongBlock w.at)) (form f known w.at args) (standing w.at (may_stand f kind)) (form_tells (row f).form w.at args))

  call_tells : (kind : RouteKind) (c : RawCall) → Tells here (call_in known kind c) (LeafUnknown raw at (Calls c))
  call_tells kind (call.Function w args) = one_tells here (λ f. roll-Expr (Expr-F.Call f.0 f.1)) (function_call known kind w args) (named_tells kind w args (function_named w.text))
  call_tells kind (call.Route w) = one_tells here (λ b. roll-Expr (Expr-F.Route b)) (block_number known Route w) (block_silent Route w)

  -- ---- assigned variables

  not_written : (p : Place) → refusal NotWritable p ≡ here → ⊥
  not_written = apart 9 at NotWritable (λ n. omega (arith, n))

  as_only : {B : Type 0} (p : Place) (rs : List Refusal) (s : Seen) (o : Option B) → In here (found_as NotWritable p rs s o).refusals → In here rs
  as_only p rs s None h = elim (in_parts here rs (refusal NotWritable p ∷ []) h) [
    | inl k ↦ k
    | inr k ↦ absurd (not_written p (alone here (refusal NotWritable p) k))
  ]
  as_only p rs s (Some b) h = h

  as_whole : {B : Type 0} (p : Place) (rs : List Refusal) (s : Seen) (o : Option B) → In here rs → In here (found_as NotWritable p rs s o).refusals
  as_whole p rs s None h = in_front here rs (refusal NotWritable p ∷ []) h
  as_whole p rs s (Some b) h = h

  found_only : {A B : Type 0} (p : Place) (f : A → Option B) (rs : List Refusal) (s : Seen) (o : Option A) → In here (found NotWritable p f rs s o).refusals → In here rs
  found_only p f rs s None h = h
  found_only p f rs s (Some a) h = as_only p rs s (f a) h

  found_whole : {A B : Type 0} (p : Place) (f : A → Option B) (rs : List Refusal) (s : Seen) (o : Option A) → In here rs → In here (found NotWritable p f rs s o).refusals
  found_whole p f rs s None h = h
  found_whole p f rs s (Some a) h = as_whole p rs s (f a) h

  target_tells : (kind : RouteKind) (v : RawVariable) → Tells here (target_of known kind v) (LeafUnknown raw at (Assigns v))
  target_tells kind v =
      let told = layer_of_judged at v.at known v.variable in
      record {
        only = λ s h. let read = layer_of known v.at v.variable s in told.only s (found_only v.at (target_in kind) read.refusals read.seen read.value h);
        whole = λ s h. let read = layer_of known v.at v.variable s in found_whole v.at (target_in kind) read.refusals read.seen read.value (told.whole s h);
      }

  -- ---- the whole

  of_bodies : IsOfBodies here
  of_bodies = record {
    parameter = apart 9 at BadParameter (λ n. omega (arith, n));
    limit = apart 9 at TooLarge (λ n. omega (arith, n));
    loaded = apart 9 at UnknownModule (λ n. omega (arith, n));
    twice = apart 9 at RouteTwice (λ n. omega (arith, n));
    request = apart 9 at NoRequestRoute (λ n. omega (arith, n));
  }

  body_here : (b : RawBlock) → Leaves here (LeafUnknown raw at) (body_in known b) (body_leaves b)
  body_here b = body_tells here known b.kind (LeafUnknown raw at) of_bodies.limit (call_tells b.kind) (λ v. part_of_judged at v.at known v.variable) (λ w. patterns_silent w.at w.text) (target_tells b.kind) b.body

  pub unknowns : Exactly (IsListed raw UnknownVariable at) (HasUnknown raw at)
  unknowns =
      let told = stands_listed raw here (λ kind leaf. LeafUnknown raw at leaf) of_bodies body_here in
      (λ h. let k = told.0 h in record { kind = k.0; leaf = k.1; stands = k.2; unknown = k.3 }, λ u. told.1 (u.kind, u.leaf, u.stands, u.unknown))
