-- A call that is read without a refusal is there.
use Rattle.std.proofs.Common.{ℕ, not, nat_le, if◌then◌else◌, List, [], ◌∷◌, ◌++◌, length, Some, None}
use Rattle.std.specs.Prelude.{position}
use Rattle.std.specs.List.{list_any}
use Rattle.std.specs.Fmt.{signed_decimal}
use Rattle.std.specs.Str.{bytes_eq, str_eq_ignore_ascii_case}
use Rattle.pv_values.specs.Matching.{is_pattern}
use Rattle.pv_values.specs.Kinds.{ArgForm, Plain, Expanding, ExpandingMaybe, ExpandingTwo, Replying, Counting, TakingText, TakingBlock, TakingPattern, TakingTable, TakingTablePattern, TakingRemovable, Continuing, Logging, row, function_named}
use Rattle.pv_values.specs.declared.refusal.Place.{Place}
use Rattle.pv_values.specs.declared.function.Func.{Func}
use Rattle.cfg_tree.specs.declared.raw.Word.{Word}
use Rattle.cfg_tree.specs.declared.raw.RawArg.{RawArg}
use Rattle.cfg_tree.specs.declared.raw.RawArg.TheVariants as arg
use Rattle.cfg_tree.specs.declared.raw.RouteKind.{RouteKind}
use Rattle.cfg_tree.specs.declared.raw.RouteKind.TheVariants.{Route, Begins}
use Rattle.cfg_tree.specs.declared.script.Part.TheOpen.{Part-F}
use Rattle.cfg_tree.specs.declared.script.Part.TheViews.{roll-Part}
use Rattle.cfg_tree.specs.Names.{Known, table_and_key, part_of}
use Rattle.cfg_tree.specs.Functions.{FuncWith, Form, expanded_arg, literal, between, number_arg, is_same_block, block_number, table_number, pattern_number, no_arg, one_arg, two_args, three_args, plain, expanding, expanding_two, expanding_maybe, replying, counting, with_literal, taking_text, taking_block, taking_pattern, taking_table, taking_table_pattern, needed_fields, taking_removable, continuing, logging, reads, form, may_stand, function_call}
use Rattle.cfg_tree.specs.Refusals.{refusal, Checked, accepted, refused, both, unless}
use Rattle.cfg_calls.proofs.Valued.{Valued, accepted_stands, accepted_valued, refused_stands, refused_valued, one_valued, both_valued, from_some_valued, unless_valued, if_valued, if_stands}
use Rattle.cfg_calls.proofs.ValuedNames.{expansion_valued, part_of_valued}
use Rattle.cfg_tree.specs.declared.refusal_kind.RefusalKind.TheVariants.{UnknownRoute, UnknownFunction, WrongBlock, WrongArguments, UnknownVariable, BadPattern, TooLarge}

-- ---- arguments

expanded_valued : (known : Known) (a : RawArg) → Valued (expanded_arg known a)
expanded_valued known (arg.String w) = expansion_valued known w.at w.text
expanded_valued known (arg.Number n) = accepted_valued (roll-Part (Part-F.Text (signed_decimal n)) ∷ [])
expanded_valued known (arg.Variable v) = one_valued (λ p. p ∷ []) (part_of known v.at v.variable) (part_of_valued known v.at v.variable)

pub block_number_valued : (known : Known) (kind : RouteKind) (w : Word) → Valued (block_number known kind w)
block_number_valued known kind w = from_some_valued (position (is_same_block (kind, Some w.text)) known.blocks) UnknownRoute w.at accepted accepted_valued

table_number_valued : (known : Known) (at : Place) (name : List ℕ) → Valued (table_number known at name)
table_number_valued known at name = from_some_valued (position (bytes_eq name) known.tables) UnknownVariable at accepted accepted_valued

pub pattern_number_valued : (at : Place) (source : List ℕ) → Valued (pattern_number at source)
pattern_number_valued at source = record {
  after = λ s.
      if_stands (not (is_pattern source)) _ _ (refused_stands BadPattern at s)
      (if_stands (nat_le 64 (length s.patterns)) _ _ (refused_stands TooLarge at s)
      (accepted_stands (length s.patterns) (record s { patterns = s.patterns ++ source ∷ [] })));
}

-- ---- forms of arguments

pub record IsValued (form : Form) : Type 0 where
  pub reads : (known : Known) (at : Place) (args : List RawArg) → Valued (form known at args)

plain_valued : (f : Func) → IsValued (plain f)
plain_valued f = record { reads = λ known at args. from_some_valued (no_arg args) WrongArguments at _ (λ n. accepted_valued (f, [])) }

expanding_reads : (f : Func) (known : Known) (at : Place) (args : List RawArg) → Valued (expanding f known at args)
expanding_reads f known at args = from_some_valued (one_arg args) WrongArguments at _ (λ x. one_valued (λ p. (f, p ∷ [])) (expanded_arg known x) (expanded_valued known x))

expanding_valued : (f : Func) → IsValued (expanding f)
expanding_valued f = record { reads = expanding_reads f }

expanding_two_valued : (f : Func) → IsValued (expanding_two f)
expanding_two_valued f = record {
  reads = λ known at args. from_some_valued (two_args args) WrongArguments at _ (λ pair.
      both_valued (λ p q. (f, p ∷ q ∷ [])) (expanded_arg known pair.0) (expanded_arg known pair.1) (expanded_valued known pair.0) (expanded_valued known pair.1));
}

expanding_maybe_reads : (f : Func) (known : Known) (at : Place) (args : List RawArg) → Valued (expanding_maybe f known at args)
expanding_maybe_reads f known at [] = accepted_valued (f, [])
expanding_maybe_reads f known at (a ∷ more) = expanding_reads f known at (a ∷ more)

expanding_maybe_valued : (f : Func) → IsValued (expanding_maybe f)
expanding_maybe_valued f = record { reads = expanding_maybe_reads f }

replying_valued : (make : ℕ → Func) → IsValued (replying make)
replying_valued make = record {
  reads = λ known at args. from_some_valued (two_args args) WrongArguments at _ (λ pair.
      from_some_valued (between 100 699 (number_arg pair.0)) WrongArguments at _ (λ code.
      one_valued (λ p. (make code, p ∷ [])) (expanded_arg known pair.1) (expanded_valued known pair.1)));
}

counting_valued : (make : ℕ → Func) → IsValued (counting make)
counting_valued make = record {
  reads = λ known at args. from_some_valued (one_arg args) WrongArguments at _ (λ n.
      from_some_valued (between 1 255 (number_arg n)) WrongArguments at _ (λ n. accepted_valued (make n, [])));
}

with_literal_valued : (read : Known → Place → Word → Checked Func) → ((known : Known) (at : Place) (w : Word) → Valued (read known at w)) → IsValued (with_literal read)
with_literal_valued read reads = record {
  reads = λ known at args. from_some_valued (one_arg args) WrongArguments at _ (λ a. from_some_valued (literal a) WrongArguments at _ (λ w.
      one_valued (λ f. (f, [])) (read known at w) (reads known at w)));
}

taking_text_valued : (make : List ℕ → Func) → IsValued (taking_text make)
taking_text_valued make = with_literal_valued _ (λ known at w. accepted_valued (make w.text))

taking_block_valued : (kind : RouteKind) (make : ℕ → Func) → IsValued (taking_block kind make)
taking_block_valued kind make = with_literal_valued _ (λ known at w. one_valued make (block_number known kind w) (block_number_valued known kind w))

taking_pattern_valued : (make : ℕ → Func) → IsValued (taking_pattern make)
taking_pattern_valued make = with_literal_valued _ (λ known at w. one_valued make (pattern_number w.at w.text) (pattern_number_valued w.at w.text))

taking_table_valued : (make : ℕ → Func) → IsValued (taking_table make)
taking_table_valued make = with_literal_valued _ (λ known at w. one_valued make (table_number known w.at w.text) (table_number_valued known w.at w.text))

taking_table_pattern_valued : (make : ℕ → ℕ → Func) → IsValued (taking_table_pattern make)
taking_table_pattern_valued make = with_literal_valued _ (λ known at w. from_some_valued (table_and_key w.text) WrongArguments at _ (λ split.
    both_valued make (table_number known w.at split.0) (pattern_number w.at split.1) (table_number_valued known w.at split.0) (pattern_number_valued w.at split.1)))

taking_removable_valued : (make : List ℕ → Func) → IsValued (taking_removable make)
taking_removable_valued make = with_literal_valued _ (λ known at w.
    if_valued (list_any (str_eq_ignore_ascii_case w.text) needed_fields) (refused WrongArguments at) (accepted (make w.text)) (refused_valued WrongArguments at) (accepted_valued (make w.text)))

continuing_valued : (make : ℕ → Func) → IsValued (continuing make)
continuing_valued make = record {
  reads = λ known at args. from_some_valued (three_args args) WrongArguments at _ (λ all. from_some_valued (literal all.2) WrongArguments at _ (λ w.
      both_valued (λ ps b. (make b, ps)) (both (λ p q. p ∷ q ∷ []) (expanded_arg known all.0) (expanded_arg known all.1)) (block_number known Route w)
      (both_valued (λ p q. p ∷ q ∷ []) (expanded_arg known all.0) (expanded_arg known all.1) (expanded_valued known all.0) (expanded_valued known all.1))
      (block_number_valued known Route w)));
}

logging_reads : (f : Func) (known : Known) (at : Place) (args : List RawArg) → Valued (logging f known at args)
logging_reads f known at [] = refused_valued WrongArguments at
logging_reads f known at (x ∷ []) = expanding_reads f known at (x ∷ [])
logging_reads f known at (level ∷ x ∷ more) = from_some_valued (literal level) WrongArguments at _ (λ w. expanding_reads f known at (x ∷ more))

logging_valued : (f : Func) → IsValued (logging f)
logging_valued f = record { reads = logging_reads f }

-- ---- calls

reads_valued : (f : ArgForm) → IsValued (reads f)
reads_valued (Plain f) = plain_valued f
reads_valued (Expanding f) = expanding_valued f
reads_valued (ExpandingMaybe f) = expanding_maybe_valued f
reads_valued (ExpandingTwo f) = expanding_two_valued f
reads_valued (Replying make) = replying_valued make
reads_valued (Counting make) = counting_valued make
reads_valued (TakingText make) = taking_text_valued make
reads_valued (TakingBlock kind make) = taking_block_valued (Begins kind) make
reads_valued (TakingPattern make) = taking_pattern_valued make
reads_valued (TakingTable make) = taking_table_valued make
reads_valued (TakingTablePattern make) = taking_table_pattern_valued make
reads_valued (TakingRemovable make) = taking_removable_valued make
reads_valued (Continuing make) = continuing_valued make
reads_valued (Logging f) = logging_valued f

pub function_call_valued : (known : Known) (kind : RouteKind) (w : Word) (args : List RawArg) → Valued (function_call known kind w args)
function_call_valued known kind w args = from_some_valued (function_named w.text) UnknownFunction w.at _ (λ f.
    let arguments = reads_valued (row f).form in
    unless_valued (if may_stand f kind then None else Some (refusal WrongBlock w.at)) (form f known w.at args) (arguments.reads known w.at args))
