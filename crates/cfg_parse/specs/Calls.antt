-- Words, variables, arguments and calls, as they are read.
use Rattle.std.specs.Prelude.{ℤ, pos, neg_ℤ, List, [], ◌∷◌, Option, Some, None, if◌then◌else◌}
use Rattle.pv_values.specs.declared.refusal.Place.{Place}
use Rattle.cfg_tree.specs.declared.token.Lexeme.{Lexeme}
use Rattle.cfg_tree.specs.declared.token.Lexeme.TheVariants as lexeme
use Rattle.cfg_tree.specs.declared.token.Keyword.TheVariants as word_is
use Rattle.cfg_tree.specs.declared.token.Mark.TheVariants as mark
use Rattle.cfg_tree.specs.declared.raw.Word.{Word}
use Rattle.cfg_tree.specs.declared.raw.RawVariable.{RawVariable}
use Rattle.cfg_tree.specs.declared.raw.RawArg.{RawArg}
use Rattle.cfg_tree.specs.declared.raw.RawArg.TheVariants as arg
use Rattle.cfg_tree.specs.declared.raw.RawCall.{RawCall}
use Rattle.cfg_tree.specs.declared.raw.RawCall.TheVariants as call
use Rattle.cfg_parse.specs.Reader.{Reader, ◌>>=◌, ◌>>◌, ◌<$>◌, pure, first, one, pass, eat_mark, mark_of, keyword_of, behind_mark, many}

-- ---- one token

abbrev pub number_token : Lexeme → Place → Option ℤ
number_token (lexeme.Number (pos n)) at = Some (pos n)
number_token _ at = None

abbrev pub string_token : Lexeme → Place → Option Word
string_token (lexeme.String s) at = Some (record { text = s; at = at })
string_token _ at = None

abbrev pub name_in : Lexeme → Place → Option Word
name_in (lexeme.Name s) at = Some (record { text = s; at = at })
name_in _ at = None

abbrev pub block_name_in : Lexeme → Place → Option Word
block_name_in (lexeme.BlockName s) at = Some (record { text = s; at = at })
block_name_in _ at = None

-- BNAME | STRING
abbrev pub target_token : Lexeme → Place → Option Word
target_token (lexeme.BlockName s) at = Some (record { text = s; at = at })
target_token (lexeme.String s) at = Some (record { text = s; at = at })
target_token _ at = None

abbrev pub variable_in : Lexeme → Place → Option RawVariable
variable_in (lexeme.Variable v) at = Some (record { variable = v; at = at })
variable_in _ at = None

unfoldable pub number : Reader ℤ
number = one number_token

unfoldable pub string : Reader Word
string = one string_token

unfoldable pub name : Reader Word
name = one name_in

unfoldable pub read_block_name : Reader Word
read_block_name = one block_name_in

unfoldable pub target : Reader Word
target = one target_token

unfoldable pub variable : Reader RawVariable
variable = one variable_in

-- ---- arguments

-- arg = STRING | ["-"] NUMBER | VAR
abbrev pub arg_by : Option Lexeme → Reader RawArg
arg_by (Some (lexeme.String s)) = arg.String <$> string
arg_by (Some (lexeme.Number n)) = arg.Number <$> number
arg_by (Some (lexeme.Mark mark.Minus)) = pass >> (λ n. arg.Number (neg_ℤ n)) <$> number
arg_by _ = arg.Variable <$> variable

unfoldable pub argument : Reader RawArg
argument = λ ts. arg_by (first ts) ts

-- { "," arg }, after those before
unfoldable pub more_arguments : List RawArg → Reader (List RawArg)
more_arguments = many (behind_mark mark.Comma argument)

-- [ arg { "," arg } ] ")"
unfoldable pub arguments : Reader (List RawArg)
arguments = do
  none ← eat_mark mark.CloseRound
  if none then pure [] else (do
    a ← argument
    all ← more_arguments (a ∷ [])
    mark_of mark.CloseRound
    pure all)

-- ---- calls

-- NAME "(" [ arg { "," arg } ] ")"
unfoldable pub read_function_call : Reader RawCall
read_function_call = do
  w ← name
  mark_of mark.OpenRound
  args ← arguments
  pure (call.Function w args)

-- "route" "(" ( BNAME | STRING ) ")"
unfoldable pub route_call : Reader RawCall
route_call = do
  keyword_of word_is.Route
  mark_of mark.OpenRound
  w ← target
  mark_of mark.CloseRound
  pure (call.Route w)

abbrev pub call_by : Option Lexeme → Reader RawCall
call_by (Some (lexeme.Keyword word_is.Route)) = route_call
call_by _ = read_function_call

unfoldable pub call_of : Reader RawCall
call_of = λ ts. call_by (first ts) ts
