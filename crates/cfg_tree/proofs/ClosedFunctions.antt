-- A call that is read names what is there.
use Rattle.std.proofs.Common.{◌≡◌, ℕ, ◌≤◌, Bool, true, false, not, nat_le, nat_lt, if◌then◌else◌, List, [], ◌∷◌, length, Option, Some, None, refl, arith, length-append}
use Rattle.std.specs.Prelude.{position}
use Rattle.std.specs.List.{list_any, list_all}
use Rattle.std.specs.Fmt.{signed_decimal}
use Rattle.std.specs.Str.{bytes_eq, str_eq_ignore_ascii_case}
use Rattle.std.proofs.lemmas.Bool.{and_from, lt-ltb}
use Rattle.pv_values.specs.Matching.{is_pattern}
use Rattle.pv_values.specs.declared.block.BlockKind.TheVariants.{Branch, Failure, Reply}
use Rattle.pv_values.specs.declared.refusal.Place.{Place}
use Rattle.pv_values.specs.declared.function.Func.{Func}
use Rattle.pv_values.specs.declared.function.Func.TheVariants as func
use Rattle.pv_values.specs.declared.function_name.FuncName.{FuncName}
use Rattle.pv_values.specs.declared.function_name.FuncName.TheVariants as name
use Rattle.pv_values.specs.Kinds.{function_named}
use Rattle.cfg_tree.specs.declared.raw.Word.{Word}
use Rattle.cfg_tree.specs.declared.raw.RawArg.{RawArg}
use Rattle.cfg_tree.specs.declared.raw.RawArg.TheVariants as arg
use Rattle.cfg_tree.specs.declared.raw.RouteKind.{RouteKind}
use Rattle.cfg_tree.specs.declared.raw.RouteKind.TheVariants.{Route, Begins}
use Rattle.cfg_tree.specs.declared.script.Part.{Part}
use Rattle.cfg_tree.specs.declared.script.Part.TheOpen.{Part-F}
use Rattle.cfg_tree.specs.declared.script.Part.TheViews.{roll-Part}
use Rattle.cfg_tree.specs.Names.{Known, table_and_key, part_of}
use Rattle.cfg_tree.specs.Functions.{FuncWith, Form, expanded_arg, literal, between, number_arg, is_same_block, block_number, table_number, pattern_number, no_arg, one_arg, two_args, three_args, plain, expanding, expanding_two, expanding_maybe, replying, counting, with_literal, taking_text, taking_block, taking_pattern, taking_table, taking_table_pattern, needed_fields, taking_removable, continuing, logging, form, may_stand, function_call}
use Rattle.cfg_tree.specs.Refusals.{refusal, Seen, Outcome, Checked, accepted, refused, both}
use Rattle.cfg_tree.specs.Closed.{Names, closed_func, closed_part, closed_parts}
use Rattle.cfg_tree.proofs.Closing.{Within, Gives, Closes, accepted_closes, refused_closes, one_closes, both_closes, from_some_closes, unless_closes, if_closes}
use Rattle.cfg_tree.proofs.ClosedNames.{IsTable, FinePart, FineParts, text_fine, table_fine, expansion_closes, part_of_closes}
use Rattle.cfg_tree.specs.declared.refusal_kind.RefusalKind.TheVariants.{UnknownRoute, UnknownFunction, WrongBlock, WrongArguments, UnknownVariable, BadPattern, TooLarge}

-- the blocks of a script are there, each of its kind, and its tables
pub record AreKnown (names : Names) (known : Known) : Type 0 where
  pub blocks : (kind : RouteKind) (name : Option (List ℕ)) (b : ℕ) → position (is_same_block (kind, name)) known.blocks ≡ Some b → names.has_block kind b ≡ true
  pub tables : length known.tables ≤ names.tables

module _ (names : Names) (known : Known) (are : AreKnown names known) where
  -- ---- arguments

  abbrev IsPattern : ℕ → Type 0
  IsPattern p = nat_lt p names.patterns ≡ true

  abbrev IsBlock : RouteKind → ℕ → Type 0
  IsBlock kind b = names.has_block kind b ≡ true

  one_part_fine : (p : Part) → FinePart names p → FineParts names (p ∷ [])
  one_part_fine p fine = and_from (closed_part names p) true fine refl

  expanded_closes : (a : RawArg) → Closes names (FineParts names) (expanded_arg known a)
  expanded_closes (arg.String w) = expansion_closes names known are.tables w.at w.text
  expanded_closes (arg.Number n) =
      accepted_closes names (FineParts names) (roll-Part (Part-F.Text (signed_decimal n)) ∷ []) (one_part_fine _ (text_fine names (signed_decimal n)))
  expanded_closes (arg.Variable v) =
      one_closes names (λ p. p ∷ []) (FinePart names) (FineParts names) one_part_fine (part_of known v.at v.variable) (part_of_closes names known are.tables v.at v.variable)

  pub block_number_closes : (kind : RouteKind) (w : Word) → Closes names (IsBlock kind) (block_number known kind w)
  block_number_closes kind w =
      from_some_closes names (IsBlock kind) (position (is_same_block (kind, Some w.text)) known.blocks) UnknownRoute w.at accepted
      (λ b e. accepted_closes names (IsBlock kind) b (are.blocks kind (Some w.text) b e))

  table_number_closes : (at : Place) (name : List ℕ) → Closes names (IsTable names) (table_number known at name)
  table_number_closes at name =
      from_some_closes names (IsTable names) (position (bytes_eq name) known.tables) UnknownVariable at accepted
      (λ t e. accepted_closes names (IsTable names) t (table_fine names known are.tables name t e))

  if_gives : {A : Type 0} (Fine : A → Type 0) (s : Seen) (b : Bool) (x y : Outcome A) → (Within names x.seen → Gives names Fine s x.value) → (Within names y.seen → Gives names Fine s y.value) →
      Within names (if b then x else y).seen → Gives names Fine s (if b then x else y).value
  if_gives Fine s true x y gx gy within = gx within
  if_gives Fine s false x y gx gy within = gy within

  pub pattern_number_closes : (at : Place) (source : List ℕ) → Closes names IsPattern (pattern_number at source)
  pattern_number_closes at source = record {
    after = λ s.
        if_gives IsPattern s (not (is_pattern source)) _ _ (λ within. (refused_closes names IsPattern BadPattern at).after s within)
        (if_gives IsPattern s (nat_le 64 (length s.patterns)) _ _ (λ within. (refused_closes names IsPattern TooLarge at).after s within)
        (λ within. record {
          before = record { patterns = let there = within.patterns in omega (arith, there, length-append s.patterns (source ∷ [])); vars = within.vars };
          fine = let there = within.patterns in lt-ltb (length s.patterns) names.patterns (omega (arith, there, length-append s.patterns (source ∷ [])));
        }));
  }

  -- ---- forms of arguments

  -- a function, and its expanded arguments, name what is there
  pub record FineCall (f : FuncWith) : Type 0 where
    pub func : closed_func names f.0 ≡ true
    pub arguments : list_all (closed_parts names) f.1 ≡ true

  abbrev FineFunc : Func → Type 0
  FineFunc f = closed_func names f ≡ true

  pub record FormCloses (form : Form) : Type 0 where
    pub reads : (at : Place) (args : List RawArg) → Closes names FineCall (form known at args)

  one_argument : (p : List Part) → FineParts names p → list_all (closed_parts names) (p ∷ []) ≡ true
  one_argument p fine = and_from (closed_parts names p) true fine refl

  two_arguments : (p q : List Part) → FineParts names p → FineParts names q → list_all (closed_parts names) (p ∷ q ∷ []) ≡ true
  two_arguments p q fp fq = and_from (closed_parts names p) (list_all (closed_parts names) (q ∷ [])) fp (one_argument q fq)

  pub plain_closes : (f : Func) → FineFunc f → FormCloses (plain f)
  plain_closes f fine = record {
    reads = λ at args. from_some_closes names FineCall (no_arg args) WrongArguments at _ (λ n e. accepted_closes names FineCall (f, []) (record { func = fine; arguments = refl }));
  }

  expanding_reads : (f : Func) → FineFunc f → (at : Place) (args : List RawArg) → Closes names FineCall (expanding f known at args)
  expanding_reads f fine at args = from_some_closes names FineCall (one_arg args) WrongArguments at _ (λ x e.
      one_closes names (λ p. (f, p ∷ [])) (FineParts names) FineCall (λ p fp. record { func = fine; arguments = one_argument p fp }) (expanded_arg known x) (expanded_closes x))

  pub expanding_closes : (f : Func) → FineFunc f → FormCloses (expanding f)
  expanding_closes f fine = record { reads = expanding_reads f fine }

  pub expanding_two_closes : (f : Func) → FineFunc f → FormCloses (expanding_two f)
  expanding_two_closes f fine = record {
    reads = λ at args. from_some_closes names FineCall (two_args args) WrongArguments at _ (λ pair e.
        both_closes names (λ p q. (f, p ∷ q ∷ [])) (FineParts names) (FineParts names) FineCall (λ p q fp fq. record { func = fine; arguments = two_arguments p q fp fq })
        (expanded_arg known pair.0) (expanded_arg known pair.1) (expanded_closes pair.0) (expanded_closes pair.1));
  }

  expanding_maybe_reads : (f : Func) → FineFunc f → (at : Place) (args : List RawArg) → Closes names FineCall (expanding_maybe f known at args)
  expanding_maybe_reads f fine at [] = accepted_closes names FineCall (f, []) (record { func = fine; arguments = refl })
  expanding_maybe_reads f fine at (a ∷ more) = expanding_reads f fine at (a ∷ more)

  pub expanding_maybe_closes : (f : Func) → FineFunc f → FormCloses (expanding_maybe f)
  expanding_maybe_closes f fine = record { reads = expanding_maybe_reads f fine }

  pub replying_closes : (make : ℕ → Func) → ((code : ℕ) → FineFunc (make code)) → FormCloses (replying make)
  replying_closes make fine = record {
    reads = λ at args. from_some_closes names FineCall (two_args args) WrongArguments at _ (λ pair e.
        from_some_closes names FineCall (between 100 699 (number_arg pair.0)) WrongArguments at _ (λ code is.
        one_closes names (λ p. (make code, p ∷ [])) (FineParts names) FineCall (λ p fp. record { func = fine code; arguments = one_argument p fp }) (expanded_arg known pair.1) (expanded_closes pair.1)));
  }

  pub counting_closes : (make : ℕ → Func) → ((n : ℕ) → FineFunc (make n)) → FormCloses (counting make)
  counting_closes make fine = record {
    reads = λ at args. from_some_closes names FineCall (one_arg args) WrongArguments at _ (λ n e.
        from_some_closes names FineCall (between 1 255 (number_arg n)) WrongArguments at _ (λ n is. accepted_closes names FineCall (make n, []) (record { func = fine n; arguments = refl })));
  }

  with_literal_closes : (read : Known → Place → Word → Checked Func) → ((at : Place) (w : Word) → Closes names FineFunc (read known at w)) → FormCloses (with_literal read)
  with_literal_closes read reads = record {
    reads = λ at args. from_some_closes names FineCall (one_arg args) WrongArguments at _ (λ a e. from_some_closes names FineCall (literal a) WrongArguments at _ (λ w is.
        one_closes names (λ f. (f, [])) FineFunc FineCall (λ f fine. record { func = fine; arguments = refl }) (read known at w) (reads at w)));
  }

  pub taking_text_closes : (make : List ℕ → Func) → ((text : List ℕ) → FineFunc (make text)) → FormCloses (taking_text make)
  taking_text_closes make fine = with_literal_closes (λ known at w. accepted (make w.text)) (λ at w. accepted_closes names FineFunc (make w.text) (fine w.text))

  pub taking_block_closes : (kind : RouteKind) (make : ℕ → Func) → ((b : ℕ) → IsBlock kind b → FineFunc (make b)) → FormCloses (taking_block kind make)
  taking_block_closes kind make fine = with_literal_closes _ (λ at w. one_closes names make (IsBlock kind) FineFunc fine (block_number known kind w) (block_number_closes kind w))

  pub taking_pattern_closes : (make : ℕ → Func) → ((p : ℕ) → IsPattern p → FineFunc (make p)) → FormCloses (taking_pattern make)
  taking_pattern_closes make fine = with_literal_closes _ (λ at w. one_closes names make IsPattern FineFunc fine (pattern_number w.at w.text) (pattern_number_closes w.at w.text))

  pub taking_table_closes : (make : ℕ → Func) → ((t : ℕ) → IsTable names t → FineFunc (make t)) → FormCloses (taking_table make)
  taking_table_closes make fine = with_literal_closes _ (λ at w. one_closes names make (IsTable names) FineFunc fine (table_number known w.at w.text) (table_number_closes w.at w.text))

  pub taking_table_pattern_closes : (make : ℕ → ℕ → Func) → ((t p : ℕ) → IsTable names t → IsPattern p → FineFunc (make t p)) → FormCloses (taking_table_pattern make)
  taking_table_pattern_closes make fine = with_literal_closes _ (λ at w. from_some_closes names FineFunc (table_and_key w.text) WrongArguments at _ (λ split e.
      both_closes names make (IsTable names) IsPattern FineFunc fine (table_number known w.at split.0) (pattern_number w.at split.1) (table_number_closes w.at split.0) (pattern_number_closes w.at split.1)))

  pub taking_removable_closes : (make : List ℕ → Func) → ((name : List ℕ) → FineFunc (make name)) → FormCloses (taking_removable make)
  taking_removable_closes make fine = with_literal_closes _ (λ at w.
      if_closes names FineFunc (list_any (str_eq_ignore_ascii_case w.text) needed_fields) (refused WrongArguments at) (accepted (make w.text)) (refused_closes names FineFunc WrongArguments at)
      (accepted_closes names FineFunc (make w.text) (fine w.text)))

  abbrev FineArguments : List (List Part) → Type 0
  FineArguments args = list_all (closed_parts names) args ≡ true

  pub continuing_closes : (make : ℕ → Func) → ((b : ℕ) → IsBlock Route b → FineFunc (make b)) → FormCloses (continuing make)
  continuing_closes make fine = record {
    reads = λ at args. from_some_closes names FineCall (three_args args) WrongArguments at _ (λ all e. from_some_closes names FineCall (literal all.2) WrongArguments at _ (λ w is.
        both_closes names (λ ps b. (make b, ps)) FineArguments (IsBlock Route) FineCall (λ ps b fps ib. record { func = fine b ib; arguments = fps })
        (both (λ p q. p ∷ q ∷ []) (expanded_arg known all.0) (expanded_arg known all.1)) (block_number known Route w)
        (both_closes names (λ p q. p ∷ q ∷ []) (FineParts names) (FineParts names) FineArguments two_arguments (expanded_arg known all.0) (expanded_arg known all.1) (expanded_closes all.0) (expanded_closes all.1))
        (block_number_closes Route w)));
  }

  logging_reads : (f : Func) → FineFunc f → (at : Place) (args : List RawArg) → Closes names FineCall (logging f known at args)
  logging_reads f fine at [] = refused_closes names FineCall WrongArguments at
  logging_reads f fine at (x ∷ []) = expanding_reads f fine at (x ∷ [])
  logging_reads f fine at (level ∷ x ∷ more) = from_some_closes names FineCall (literal level) WrongArguments at _ (λ w e. expanding_reads f fine at (x ∷ more))

  pub logging_closes : (f : Func) → FineFunc f → FormCloses (logging f)
  logging_closes f fine = record { reads = logging_reads f fine }

  -- ---- the functions

  form_closes : (f : FuncName) → FormCloses (form f)
  form_closes name.SlSendReply = replying_closes func.SlSendReply (λ n. refl)
  form_closes name.TNewtran = plain_closes func.TNewtran refl
  form_closes name.TReply = replying_closes func.TReply (λ n. refl)
  form_closes name.TRelay = plain_closes func.TRelay refl
  form_closes name.AppendBranch = expanding_maybe_closes func.AppendBranch refl
  form_closes name.TOnBranch = taking_block_closes (Begins Branch) func.TOnBranch (λ b is. is)
  form_closes name.TOnFailure = taking_block_closes (Begins Failure) func.TOnFailure (λ b is. is)
  form_closes name.TOnReply = taking_block_closes (Begins Reply) func.TOnReply (λ b is. is)
  form_closes name.TSetFr = expanding_two_closes func.TSetFr refl
  form_closes name.TCheckTrans = plain_closes func.TCheckTrans refl
  form_closes name.TIsCanceled = plain_closes func.TIsCanceled refl
  form_closes name.TCheckStatus = taking_pattern_closes func.TCheckStatus (λ p is. is)
  form_closes name.TSuspend = plain_closes func.TSuspend refl
  form_closes name.TContinue = continuing_closes func.TContinue (λ b is. is)
  form_closes name.IsMethod = taking_text_closes func.IsMethod (λ text. refl)
  form_closes name.HasTotag = plain_closes func.HasTotag refl
  form_closes name.IsPresentHf = taking_text_closes func.IsPresentHf (λ text. refl)
  form_closes name.RemoveHf = taking_removable_closes func.RemoveHf (λ name. refl)
  form_closes name.AppendHf = expanding_closes func.AppendHf refl
  form_closes name.MfProcessMaxfwdHeader = counting_closes func.MfProcessMaxfwdHeader (λ n. refl)
  form_closes name.RecordRoute = plain_closes func.RecordRoute refl
  form_closes name.LooseRoute = plain_closes func.LooseRoute refl
  form_closes name.Xlog = logging_closes func.Xlog refl
  form_closes name.ShtRmNameRe = taking_table_pattern_closes func.ShtRmNameRe (λ t p is_table is_pattern. and_from _ _ is_table is_pattern)
  form_closes name.ShtReset = taking_table_closes func.ShtReset (λ t is. is)

  pub function_call_closes : (kind : RouteKind) (w : Word) (args : List RawArg) → Closes names FineCall (function_call known kind w args)
  function_call_closes kind w args = from_some_closes names FineCall (function_named w.text) UnknownFunction w.at _ (λ f e.
      unless_closes names FineCall (if may_stand f kind then None else Some (refusal WrongBlock w.at)) (form f known w.at args) ((form_closes f).reads w.at args))
