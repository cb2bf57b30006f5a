-- What a call tells, by the form of its arguments: of the blocks and the patterns that it names, and of nothing else.
use Rattle.std.proofs.Common.{◌≡◌, ◌⊎◌, ℕ, Bool, true, false, if◌then◌else◌, List, [], ◌∷◌, Option, Some, None, refl, sym, ap, ◌∙◌, subst, inl, inr}
use Rattle.std.specs.List.{list_any}
use Rattle.std.specs.Str.{str_eq_ignore_ascii_case}
use Rattle.pv_values.specs.declared.refusal.Place.{Place}
use Rattle.pv_values.specs.declared.function.Func.{Func}
use Rattle.pv_values.specs.declared.function_name.FuncName.{FuncName}
use Rattle.pv_values.specs.Kinds.{ArgForm, Plain, Expanding, ExpandingMaybe, ExpandingTwo, Replying, Counting, TakingText, TakingBlock, TakingPattern, TakingTable, TakingTablePattern, TakingRemovable, Continuing, Logging, row, function_named}
use Rattle.cfg_tree.specs.declared.raw.Word.{Word}
use Rattle.cfg_tree.specs.declared.raw.RawArg.{RawArg}
use Rattle.cfg_tree.specs.declared.raw.RawArg.TheVariants as arg
use Rattle.cfg_tree.specs.declared.raw.RawCall.{RawCall}
use Rattle.cfg_tree.specs.declared.raw.RawCall.TheVariants as call
use Rattle.cfg_tree.specs.declared.raw.RouteKind.{RouteKind}
use Rattle.cfg_tree.specs.declared.raw.RouteKind.TheVariants.{Route, Begins}
use Rattle.cfg_tree.specs.declared.script.Expr.TheOpen.{Expr-F}
use Rattle.cfg_tree.specs.declared.script.Expr.TheViews.{roll-Expr}
use Rattle.cfg_tree.specs.Names.{Known, table_and_key}
use Rattle.cfg_tree.specs.Functions.{FuncWith, expanded_arg, literal, between, number_arg, block_number, table_number, pattern_number, no_arg, one_arg, two_args, expanding, expanding_maybe, with_literal, needed_fields, logging, continuing, reads, form, may_stand, function_call}
use Rattle.cfg_tree.specs.Checks.{call_in}
use Rattle.cfg_tree.specs.Refusals.{Refusal, refusal, Checked, accepted, refused, one, both, from_some, unless}
use Rattle.cfg_tree.specs.declared.refusal_kind.RefusalKind.TheVariants.{UnknownFunction, WrongBlock, WrongArguments, UnknownVariable}
use Rattle.cfg_laws.proofs.Telling.{Tells, Silent, same_tells, accepted_silent, refused_silent, one_tells, both_tells, both_silent, from_some_silent, unless_tells, if_silent}
use Rattle.cfg_laws.proofs.SilentNames.{table_number_silent, expanded_arg_silent}

-- the refusal is of another kind than those of the function's name and of variables
pub record IsOther (r : Refusal) : Type 0 where
  pub function : (at : Place) → refusal UnknownFunction at ≡ r → ⊥
  pub block : (at : Place) → refusal WrongBlock at ≡ r → ⊥
  pub arguments : (at : Place) → refusal WrongArguments at ≡ r → ⊥
  pub variable : (at : Place) → refusal UnknownVariable at ≡ r → ⊥

abbrev OneWord : List RawArg → (Word → Type 0) → Type 0
OneWord args Q = (w : Word) × (args ≡ arg.String w ∷ []) × Q w

-- what the form of the arguments tells
abbrev pub FormTells : (RouteKind → Word → Type 0) → (Place → List ℕ → Type 0) → ArgForm → List RawArg → Type 0
FormTells B M (Plain f) args = ⊥
FormTells B M (Expanding f) args = ⊥
FormTells B M (ExpandingMaybe f) args = ⊥
FormTells B M (ExpandingTwo f) args = ⊥
FormTells B M (Replying make) args = ⊥
FormTells B M (Counting make) args = ⊥
FormTells B M (TakingText make) args = ⊥
FormTells B M (TakingBlock kind make) args = OneWord args (B (Begins kind))
FormTells B M (TakingPattern make) args = OneWord args (λ w. M w.at w.text)
FormTells B M (TakingTable make) args = ⊥
FormTells B M (TakingTablePattern make) args = OneWord args (λ w. (split : List ℕ × List ℕ) × (table_and_key w.text ≡ Some split) × M w.at split.1)
FormTells B M (TakingRemovable make) args = ⊥
FormTells B M (Continuing make) args = (i : RawArg) × (l : RawArg) × (w : Word) × (args ≡ i ∷ l ∷ arg.String w ∷ []) × B Route w
FormTells B M (Logging f) args = ⊥

abbrev pub CallTells : (RouteKind → Word → Type 0) → (Place → List ℕ → Type 0) → RawCall → Type 0
CallTells B M (call.Function w args) = (f : FuncName) × (function_named w.text ≡ Some f) × FormTells B M (row f).form args
CallTells B M (call.Route w) = B Route w

-- the word that a list of arguments begins with, or that stands third, or else this one
first_word : List RawArg → Word → Word
first_word (arg.String w ∷ more) d = w
first_word (arg.Number n ∷ more) d = d
first_word (arg.Variable v ∷ more) d = d
first_word [] d = d

third_word : List RawArg → Word → Word
third_word (a ∷ b ∷ more) d = first_word more d
third_word (a ∷ []) d = d
third_word [] d = d

one_word : (Q : Word → Type 0) (w v : Word) → arg.String w ∷ [] ≡ arg.String v ∷ [] → Q v → Q w
unfolding first_word
one_word Q w v e q = subst Q (sym (ap (λ args. first_word args w) e)) q

last_word : (Q : Word → Type 0) (a b i l : RawArg) (w v : Word) → a ∷ b ∷ arg.String w ∷ [] ≡ i ∷ l ∷ arg.String v ∷ [] → Q v → Q w
unfolding first_word third_word
last_word Q a b i l w v e q = subst Q (sym (ap (λ args. third_word args w) e)) q

module _ (r : Refusal) (other : IsOther r) (known : Known) (B : RouteKind → Word → Type 0) (M : Place → List ℕ → Type 0)
    (blocks : (kind : RouteKind) (w : Word) → Tells r (block_number known kind w) (B kind w)) (patterns : (at : Place) (source : List ℕ) → Tells r (pattern_number at source) (M at source)) where
  never : {A : Type 0} {P : Type 0} (m : Checked A) → Silent r m → (P → ⊥) → Tells r m P
  never m t none = same_tells r m (λ h. absurd h) none t

  expanded : (a : RawArg) → Silent r (expanded_arg known a)
  expanded a = expanded_arg_silent r other.variable known a

  expanding_silent : (f : Func) (at : Place) (args : List RawArg) → Silent r (expanding f known at args)
  expanding_silent f at args = from_some_silent r (one_arg args) WrongArguments at _ (other.arguments at) (λ x. one_tells r (λ p. (f, p ∷ [])) (expanded_arg known x) (expanded x))

  logging_silent : (f : Func) (at : Place) (args : List RawArg) → Silent r (logging f known at args)
  logging_silent f at [] = refused_silent r WrongArguments at (other.arguments at)
  logging_silent f at (x ∷ []) = expanding_silent f at (x ∷ [])
  logging_silent f at (level ∷ x ∷ more) = from_some_silent r (literal level) WrongArguments at _ (other.arguments at) (λ w. expanding_silent f at (x ∷ more))

  maybe_silent : (f : Func) (at : Place) (args : List RawArg) → Silent r (expanding_maybe f known at args)
  maybe_silent f at [] = accepted_silent r (f, [])
  maybe_silent f at (a ∷ more) = expanding_silent f at (a ∷ more)

  literal_tells : (read : Known → Place → Word → Checked Func) (Q : Word → Type 0) → ((at : Place) (w : Word) → Tells r (read known at w) (Q w)) → (at : Place) (args : List RawArg) →
      Tells r (with_literal read known at args) (OneWord args Q)
  literal_tells read Q is at [] = never (refused WrongArguments at) (refused_silent r WrongArguments at (other.arguments at)) (λ h. let e : [] ≡ arg.String h.0 ∷ [] = h.1 in absurd cc)
  literal_tells read Q is at (arg.String w ∷ []) =
      same_tells r (with_literal read known at (arg.String w ∷ [])) (λ q. (w, refl, q)) (λ h. one_word Q w h.0 h.1 h.2) (one_tells r (λ f. (f, [])) (read known at w) (is at w))
  literal_tells read Q is at (arg.Number n ∷ []) =
      never (refused WrongArguments at) (refused_silent r WrongArguments at (other.arguments at)) (λ h. let e : arg.Number n ∷ [] ≡ arg.String h.0 ∷ [] = h.1 in absurd cc)
  literal_tells read Q is at (arg.Variable v ∷ []) =
      never (refused WrongArguments at) (refused_silent r WrongArguments at (other.arguments at)) (λ h. let e : arg.Variable v ∷ [] ≡ arg.String h.0 ∷ [] = h.1 in absurd cc)
  literal_tells read Q is at (a ∷ b ∷ more) =
      never (refused WrongArguments at) (refused_silent r WrongArguments at (other.arguments at)) (λ h. let e : a ∷ b ∷ more ≡ arg.String h.0 ∷ [] = h.1 in absurd cc)

  no_word : (Q : Word → Type 0) → ((w : Word) → Q w → ⊥) → (args : List RawArg) → OneWord args Q → ⊥
  no_word Q none args h = none h.0 h.2

  literal_silent : (read : Known → Place → Word → Checked Func) → ((at : Place) (w : Word) → Silent r (read known at w)) → (at : Place) (args : List RawArg) → Silent r (with_literal read known at args)
  literal_silent read is at args = same_tells r (with_literal read known at args) (no_word (λ w. ⊥) (λ w h. h) args) (λ h. absurd h) (literal_tells read (λ w. ⊥) is at args)

  right : {P : Type 0} → ⊥ ⊎ P → P
  right (inl h) = absurd h
  right (inr p) = p

  split_tells : (make : ℕ → ℕ → Func) (at : Place) (w : Word) (o : Option (List ℕ × List ℕ)) →
      Tells r (from_some o WrongArguments at (λ split. both make (table_number known w.at split.0) (pattern_number w.at split.1))) ((split : List ℕ × List ℕ) × (o ≡ Some split) × M w.at split.1)
  split_tells make at w None = never (refused WrongArguments at) (refused_silent r WrongArguments at (other.arguments at)) (λ h. let e : None ≡ Some h.0 = h.1 in absurd cc)
  split_tells make at w (Some split) =
      same_tells r (both make (table_number known w.at split.0) (pattern_number w.at split.1)) (λ h. (split, refl, right h))
      (λ h. inr (subst (λ (s : List ℕ × List ℕ). M w.at s.1) (sym (ap (λ (o : Option (List ℕ × List ℕ)). elim o [ None ↦ split | Some s ↦ s ]) h.1)) h.2))
      (both_tells r make (table_number known w.at split.0) (pattern_number w.at split.1) (table_number_silent r other.variable known w.at split.0) (patterns w.at split.1))

  wrong_three : (make : ℕ → Func) (at : Place) (args : List RawArg) → ((i l : RawArg) (w : Word) → args ≡ i ∷ l ∷ arg.String w ∷ [] → ⊥) →
      Tells r (refused {A = FuncWith} WrongArguments at) (FormTells B M (Continuing make) args)
  wrong_three make at args none = never (refused WrongArguments at) (refused_silent r WrongArguments at (other.arguments at)) (λ h. none h.0 h.1 h.2 h.3)

  continuing_tells : (make : ℕ → Func) (at : Place) (args : List RawArg) → Tells r (continuing make known at args) (FormTells B M (Continuing make) args)
  continuing_tells make at [] = wrong_three make at [] (λ i l w e. cc)
  continuing_tells make at (a ∷ []) = wrong_three make at (a ∷ []) (λ i l w e. cc)
  continuing_tells make at (a ∷ b ∷ []) = wrong_three make at (a ∷ b ∷ []) (λ i l w e. cc)
  continuing_tells make at (a ∷ b ∷ arg.String w ∷ []) =
      same_tells r (continuing make known at (a ∷ b ∷ arg.String w ∷ [])) (λ q. (a, b, w, refl, right q)) (λ h. inr (last_word (B Route) a b h.0 h.1 w h.2 h.3 h.4))
      (both_tells r (λ ps b. (make b, ps)) (both (λ p q. p ∷ q ∷ []) (expanded_arg known a) (expanded_arg known b)) (block_number known Route w)
      (both_silent r (λ p q. p ∷ q ∷ []) (expanded_arg known a) (expanded_arg known b) (expanded a) (expanded b)) (blocks Route w))
  continuing_tells make at (a ∷ b ∷ arg.Number n ∷ []) = wrong_three make at (a ∷ b ∷ arg.Number n ∷ []) (λ i l w e. cc)
  continuing_tells make at (a ∷ b ∷ arg.Variable v ∷ []) = wrong_three make at (a ∷ b ∷ arg.Variable v ∷ []) (λ i l w e. cc)
  continuing_tells make at (a ∷ b ∷ c ∷ d ∷ more) = wrong_three make at (a ∷ b ∷ c ∷ d ∷ more) (λ i l w e. cc)

  form_tells : (f : ArgForm) (at : Place) (args : List RawArg) → Tells r (reads f known at args) (FormTells B M f args)
  form_tells (Plain f) at args = from_some_silent r (no_arg args) WrongArguments at _ (other.arguments at) (λ n. accepted_silent r (f, []))
  form_tells (Expanding f) at args = expanding_silent f at args
  form_tells (ExpandingMaybe f) at args = maybe_silent f at args
  form_tells (ExpandingTwo f) at args = from_some_silent r (two_args args) WrongArguments at _ (other.arguments at) (λ pair.
      both_silent r (λ p q. (f, p ∷ q ∷ [])) (expanded_arg known pair.0) (expanded_arg known pair.1) (expanded pair.0) (expanded pair.1))
  form_tells (Replying make) at args = from_some_silent r (two_args args) WrongArguments at _ (other.arguments at) (λ pair.
      from_some_silent r (between 100 699 (number_arg pair.0)) WrongArguments at _ (other.arguments at) (λ code. one_tells r (λ p. (make code, p ∷ [])) (expanded_arg known pair.1) (expanded pair.1)))
  form_tells (Counting make) at args = from_some_silent r (one_arg args) WrongArguments at _ (other.arguments at) (λ n.
      from_some_silent r (between 1 255 (number_arg n)) WrongArguments at _ (other.arguments at) (λ n. accepted_silent r (make n, [])))
  form_tells (TakingText make) at args = literal_silent (λ known at w. accepted (make w.text)) (λ at w. accepted_silent r (make w.text)) at args
  form_tells (TakingBlock kind make) at args = literal_tells (λ known at w. one make (block_number known (Begins kind) w)) (B (Begins kind)) (λ at w. one_tells r make (block_number known (Begins kind) w) (blocks (Begins kind) w)) at args
  form_tells (TakingPattern make) at args = literal_tells (λ known at w. one make (pattern_number w.at w.text)) (λ w. M w.at w.text) (λ at w. one_tells r make (pattern_number w.at w.text) (patterns w.at w.text)) at args
  form_tells (TakingTable make) at args = literal_silent (λ known at w. one make (table_number known w.at w.text)) (λ at w. one_tells r make (table_number known w.at w.text) (table_number_silent r other.variable known w.at w.text)) at args
  form_tells (TakingTablePattern make) at args = literal_tells (λ known at w. from_some (table_and_key w.text) WrongArguments at (λ split. both make (table_number known w.at split.0) (pattern_number w.at split.1)))
      (λ w. (split : List ℕ × List ℕ) × (table_and_key w.text ≡ Some split) × M w.at split.1)
      (λ at w. split_tells make at w (table_and_key w.text)) at args
  form_tells (TakingRemovable make) at args = literal_silent (λ known at w. if list_any (str_eq_ignore_ascii_case w.text) needed_fields then refused WrongArguments at else accepted (make w.text)) (λ at w.
      if_silent r (list_any (str_eq_ignore_ascii_case w.text) needed_fields) (refused WrongArguments at) (accepted (make w.text)) (refused_silent r WrongArguments at (other.arguments at)) (accepted_silent r (make w.text))) at args
  form_tells (Continuing make) at args = continuing_tells make at args
  form_tells (Logging f) at args = logging_silent f at args

  standing : (at : Place) (b : Bool) (x : Refusal) → (if b then None else Some (refusal WrongBlock at)) ≡ Some x → x ≡ r → ⊥
  standing at true x e is = let f : None ≡ Some x = e in cc
  standing at false x e is = other.block at (ap (λ (o : Option Refusal). elim o [ None ↦ refusal WrongBlock at | Some y ↦ y ]) e ∙ is)

  named_tells : (kind : RouteKind) (w : Word) (args : List RawArg) (o : Option FuncName) →
      Tells r (from_some o UnknownFunction w.at (λ f. unless (if may_stand f kind then None else Some (refusal WrongBlock w.at)) (form f known w.at args)))
      ((f : FuncName) × (o ≡ Some f) × FormTells B M (row f).form args)
  named_tells kind w args None = never (refused UnknownFunction w.at) (refused_silent r UnknownFunction w.at (other.function w.at)) (λ h. let e : None ≡ Some h.0 = h.1 in absurd cc)
  named_tells kind w args (Some f) =
      same_tells r _ (λ q. (f, refl, q))
      (λ h. subst (λ (g : FuncName). FormTells B M (row g).form args) (sym (ap (λ (o : Option FuncName). elim o [ None ↦ f | Some g ↦ g ]) h.1)) h.2)
      (unless_tells r (if may_stand f kind then None else Some (refusal WrongBlock w.at)) (form f known w.at args) (standing w.at (may_stand f kind)) (form_tells (row f).form w.at args))

  pub call_tells : (kind : RouteKind) (c : RawCall) → Tells r (call_in known kind c) (CallTells B M c)
  call_tells kind (call.Function w args) = one_tells r (λ f. roll-Expr (Expr-F.Call f.0 f.1)) (function_call known kind w args) (named_tells kind w args (function_named w.text))
  call_tells kind (call.Route w) = one_tells r (λ b. roll-Expr (Expr-F.Route b)) (block_number known Route w) (blocks Route w)
