-- The functions of a script: their blocks, and the arguments that each of them takes.
use Rattle.std.specs.Prelude.{ℕ, ℤ, pos, negsuc, ◌==◌, Bool, true, false, not, ◌&&◌, ◌||◌, nat_le, List, [], ◌∷◌, ◌++◌, length, position, Option, Some, None, if◌then◌else◌, codes}
use Rattle.std.specs.List.{list_any}
use Rattle.std.specs.Fmt.{signed_decimal}
use Rattle.std.specs.Str.{bytes_eq, str_eq_ignore_ascii_case}
use Rattle.std.specs.Str.Parse.{digits_value}
use Rattle.pv_values.specs.Kinds.{ArgForm, Plain, Expanding, ExpandingMaybe, ExpandingTwo, Replying, Counting, TakingText, TakingBlock, TakingPattern, TakingTable, TakingTablePattern, TakingRemovable, Continuing, Logging, row, function_named, stands_in}
use Rattle.pv_values.specs.Matching.{is_pattern}
use Rattle.pv_values.specs.Numbers.{is_numeral}
use Rattle.pv_values.specs.declared.block.BlockKind.TheVariants.{Request, Branch, Failure, Reply, Event}
use Rattle.pv_values.specs.declared.refusal.Place.{Place}
use Rattle.pv_values.specs.declared.function.Func.{Func}
use Rattle.pv_values.specs.declared.function_name.FuncName.{FuncName}
use Rattle.cfg_tree.specs.declared.raw.Word.{Word}
use Rattle.cfg_tree.specs.declared.raw.RawArg.{RawArg}
use Rattle.cfg_tree.specs.declared.raw.RawArg.TheVariants as arg
use Rattle.cfg_tree.specs.declared.raw.RouteKind.{RouteKind}
use Rattle.cfg_tree.specs.declared.raw.RouteKind.TheVariants.{Route, Begins}
use Rattle.cfg_tree.specs.declared.script.Part.{Part}
use Rattle.cfg_tree.specs.declared.script.Part.TheOpen.{Part-F}
use Rattle.cfg_tree.specs.declared.script.Part.TheViews.{roll-Part}
use Rattle.cfg_tree.specs.Names.{Known, expansion, part_of, table_and_key}
use Rattle.cfg_tree.specs.Variables.{begins_with}
use Rattle.cfg_tree.specs.Refusals.{Checked, refusal, accepted, refused, one, both, from_some, unless}
use Rattle.cfg_tree.specs.declared.refusal_kind.RefusalKind.TheVariants.{UnknownRoute, UnknownFunction, WrongBlock, WrongArguments, UnknownVariable, BadPattern, TooLarge}
use Rattle.cfg_tree.specs.ByteNames.{ZERO}

-- a function with its literal arguments, and the parts of its expanded ones
abbrev pub FuncWith : Type 0
FuncWith = Func × List (List Part)

-- ---- arguments

-- an argument that is expanded: a string, a variable, or a number, which is its decimal text
abbrev pub expanded_arg : Known → RawArg → Checked (List Part)
expanded_arg known (arg.String w) = expansion known w.at w.text
expanded_arg known (arg.Number n) = accepted (roll-Part (Part-F.Text (signed_decimal n)) ∷ [])
expanded_arg known (arg.Variable v) = one (λ p. p ∷ []) (part_of known v.at v.variable)

-- a literal argument, which is a string
abbrev pub literal : RawArg → Option Word
literal (arg.String w) = Some w
literal (arg.Number n) = None
literal (arg.Variable v) = None

-- plain decimal: digits without a leading zero
abbrev pub plain_decimal : List ℕ → Option ℕ
plain_decimal text =
    if is_numeral text && (not (begins_with ZERO text) || (length text == 1)) then Some (digits_value 10 text) else None

abbrev pub not_below_0 : ℤ → Option ℕ
not_below_0 (pos n) = Some n
not_below_0 (negsuc n) = None

abbrev pub between : ℕ → ℕ → Option ℕ → Option ℕ
between low high None = None
between low high (Some n) = if nat_le low n && nat_le n high then Some n else None

-- a number within these bounds, or a literal string of it
abbrev pub number_arg : RawArg → Option ℕ
number_arg (arg.Number n) = not_below_0 n
number_arg (arg.String w) = plain_decimal w.text
number_arg (arg.Variable v) = None

-- the number of the block of this kind and name
abbrev pub kind_number : RouteKind → ℕ
kind_number Route = 0
kind_number (Begins Request) = 1
kind_number (Begins Branch) = 2
kind_number (Begins Failure) = 3
kind_number (Begins Reply) = 4
kind_number (Begins Event) = 5

abbrev pub is_same_name : Option (List ℕ) → Option (List ℕ) → Bool
is_same_name None None = true
is_same_name None (Some b) = false
is_same_name (Some a) None = false
is_same_name (Some a) (Some b) = bytes_eq a b

abbrev pub is_same_block : RouteKind × Option (List ℕ) → RouteKind × Option (List ℕ) → Bool
is_same_block a b = (kind_number a.0 == kind_number b.0) && is_same_name a.1 b.1

abbrev pub block_number : Known → RouteKind → Word → Checked ℕ
block_number known kind w = from_some (position (is_same_block (kind, Some w.text)) known.blocks) UnknownRoute w.at accepted

-- the number of a table
abbrev pub table_number : Known → Place → List ℕ → Checked ℕ
table_number known at name = from_some (position (bytes_eq name) known.tables) UnknownVariable at accepted

-- the number of a pattern: patterns are numbered as they are met, and there are 64 at most
abbrev pub pattern_number : Place → List ℕ → Checked ℕ
pattern_number at source seen =
    if not (is_pattern source) then refused BadPattern at seen
    else if nat_le 64 (length seen.patterns) then refused TooLarge at seen
    else accepted (length seen.patterns) (record seen { patterns = seen.patterns ++ source ∷ [] })

-- ---- forms of arguments; what has another form is refused at the function's name

abbrev pub no_arg : List RawArg → Option ℕ
no_arg [] = Some 0
no_arg (a ∷ more) = None

abbrev pub one_arg : List RawArg → Option RawArg
one_arg [] = None
one_arg (a ∷ []) = Some a
one_arg (a ∷ b ∷ more) = None

abbrev pub two_args : List RawArg → Option (RawArg × RawArg)
two_args [] = None
two_args (a ∷ []) = None
two_args (a ∷ b ∷ []) = Some (a, b)
two_args (a ∷ b ∷ c ∷ more) = None

abbrev pub three_args : List RawArg → Option (RawArg × RawArg × RawArg)
three_args [] = None
three_args (a ∷ []) = None
three_args (a ∷ b ∷ []) = None
three_args (a ∷ b ∷ c ∷ []) = Some (a, b, c)
three_args (a ∷ b ∷ c ∷ d ∷ more) = None

abbrev pub Form : Type 0
Form = Known → Place → List RawArg → Checked FuncWith

-- (): no argument
abbrev pub plain : Func → Form
plain f known at args = from_some (no_arg args) WrongArguments at (λ _. accepted (f, []))

-- (x): one that is expanded
abbrev pub expanding : Func → Form
expanding f known at args = from_some (one_arg args) WrongArguments at (λ x. one (λ p. (f, p ∷ [])) (expanded_arg known x))

-- (x, x)
abbrev pub expanding_two : Func → Form
expanding_two f known at args = from_some (two_args args) WrongArguments at (λ (x, y).
    both (λ p q. (f, p ∷ q ∷ [])) (expanded_arg known x) (expanded_arg known y))

-- ([x])
abbrev pub expanding_maybe : Func → Form
expanding_maybe f known at [] = accepted (f, [])
expanding_maybe f known at (a ∷ more) = expanding f known at (a ∷ more)

-- (code, x reason): 100 to 699
abbrev pub replying : (ℕ → Func) → Form
replying make known at args = from_some (two_args args) WrongArguments at (λ (c, x). from_some (between 100 699 (number_arg c)) WrongArguments at (λ code.
    one (λ p. (make code, p ∷ [])) (expanded_arg known x)))

-- (n): a number from 1 to 255
abbrev pub counting : (ℕ → Func) → Form
counting make known at args = from_some (one_arg args) WrongArguments at (λ n. from_some (between 1 255 (number_arg n)) WrongArguments at (λ n. accepted (make n, [])))

-- ("literal")
abbrev pub with_literal : (Known → Place → Word → Checked Func) → Form
with_literal read known at args = from_some (one_arg args) WrongArguments at (λ a. from_some (literal a) WrongArguments at (λ w.
    one (λ f. (f, [])) (read known at w)))

abbrev pub taking_text : (List ℕ → Func) → Form
taking_text make = with_literal (λ known at w. accepted (make w.text))

abbrev pub taking_block : RouteKind → (ℕ → Func) → Form
taking_block kind make = with_literal (λ known at w. one make (block_number known kind w))

abbrev pub taking_pattern : (ℕ → Func) → Form
taking_pattern make = with_literal (λ known at w. one make (pattern_number w.at w.text))

abbrev pub taking_table : (ℕ → Func) → Form
taking_table make = with_literal (λ known at w. one make (table_number known w.at w.text))

-- "table=>re"
abbrev pub taking_table_pattern : (ℕ → ℕ → Func) → Form
taking_table_pattern make = with_literal (λ known at w. from_some (table_and_key w.text) WrongArguments at (λ split.
    both make (table_number known w.at split.0) (pattern_number w.at split.1)))

-- a name of a field that may be removed: not one of those that a message needs
abbrev pub needed_fields : List (List ℕ)
needed_fields =
    codes "via" ∷ codes "v" ∷ codes "from" ∷ codes "f" ∷ codes "to" ∷ codes "t" ∷ codes "call-id" ∷ codes "i" ∷ codes "cseq"
    ∷ codes "max-forwards" ∷ codes "content-length" ∷ codes "l" ∷ codes "route" ∷ codes "record-route" ∷ []

abbrev pub taking_removable : (List ℕ → Func) → Form
taking_removable make = with_literal (λ known at w.
    if list_any (str_eq_ignore_ascii_case w.text) needed_fields then refused WrongArguments at else accepted (make w.text))

-- (x index, x label, route)
abbrev pub continuing : (ℕ → Func) → Form
continuing make known at args = from_some (three_args args) WrongArguments at (λ (i, l, r). from_some (literal r) WrongArguments at (λ w.
    both (λ ps b. (make b, ps)) (both (λ p q. p ∷ q ∷ []) (expanded_arg known i) (expanded_arg known l)) (block_number known Route w)))

-- ([level,] x text): the level is a string, which isn't looked at
abbrev pub logging : Func → Form
logging f known at [] = refused WrongArguments at
logging f known at (x ∷ []) = expanding f known at (x ∷ [])
logging f known at (level ∷ x ∷ more) = from_some (literal level) WrongArguments at (λ w. expanding f known at (x ∷ more))

-- ---- calls

-- what each form of the table reads
abbrev pub reads : ArgForm → Form
reads (Plain f) = plain f
reads (Expanding f) = expanding f
reads (ExpandingMaybe f) = expanding_maybe f
reads (ExpandingTwo f) = expanding_two f
reads (Replying make) = replying make
reads (Counting make) = counting make
reads (TakingText make) = taking_text make
reads (TakingBlock kind make) = taking_block (Begins kind) make
reads (TakingPattern make) = taking_pattern make
reads (TakingTable make) = taking_table make
reads (TakingTablePattern make) = taking_table_pattern make
reads (TakingRemovable make) = taking_removable make
reads (Continuing make) = continuing make
reads (Logging f) = logging f

-- the arguments of a function
abbrev pub form : FuncName → Form
form f = reads (row f).form

-- a function stands where it works: in `route[NAME]`, or directly in a block of a kind that lists it
abbrev pub may_stand : FuncName → RouteKind → Bool
may_stand f Route = true
may_stand f (Begins kind) = stands_in f kind

-- a call of the function of this name, in a block of this kind
abbrev pub function_call : Known → RouteKind → Word → List RawArg → Checked FuncWith
function_call known kind w args = from_some (function_named w.text) UnknownFunction w.at (λ f.
    unless (if may_stand f kind then None else Some (refusal WrongBlock w.at)) (form f known w.at args))
