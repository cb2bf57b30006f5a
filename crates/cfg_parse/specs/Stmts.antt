-- Statements, as they are read.
use Rattle.std.specs.Prelude.{ℕ, zero, suc, pos, Bool, true, false, List, [], Option, Some, None, if◌then◌else◌}
use Rattle.pv_values.specs.declared.value.Val.{Val}
use Rattle.pv_values.specs.declared.value.Val.TheVariants as val
use Rattle.pv_values.specs.declared.refusal.Place.{Place}
use Rattle.cfg_tree.specs.declared.token.Lexeme.{Lexeme}
use Rattle.cfg_tree.specs.declared.token.Lexeme.TheVariants as lexeme
use Rattle.cfg_tree.specs.declared.token.Keyword.{Keyword}
use Rattle.cfg_tree.specs.declared.token.Keyword.TheVariants as word_is
use Rattle.cfg_tree.specs.declared.token.Mark.TheVariants as mark
use Rattle.cfg_tree.specs.declared.raw.RawStmt.{RawStmt}
use Rattle.cfg_tree.specs.declared.raw.RawStmt.TheOpen.{RawStmt-F}
use Rattle.cfg_tree.specs.declared.raw.RawStmt.TheViews.{roll-RawStmt}
use Rattle.cfg_tree.specs.declared.raw.RawExpr.{RawExpr}
use Rattle.cfg_parse.specs.Reader.{Reader, ◌>>=◌, ◌>>◌, ◌<$>◌, pure, refuse, first, one, here, since, mark_of, keyword_of, eat_mark, behind_keyword, many}
use Rattle.cfg_parse.specs.Calls.{variable, call_of}
use Rattle.cfg_parse.specs.Exprs.{expr}

-- "(" expr ")"
unfoldable pub condition : Reader RawExpr
condition = do
  mark_of mark.OpenRound
  e ← expr
  mark_of mark.CloseRound
  pure e

-- ---- statements without others in them

-- VAR "=" expr ";"
unfoldable pub assignment : Reader RawStmt
assignment = do
  start ← here
  v ← variable
  mark_of mark.Assign
  e ← expr
  mark_of mark.Semicolon
  at ← since start
  pure (roll-RawStmt (RawStmt-F.Set at v e))

-- call ";"
unfoldable pub call_alone : Reader RawStmt
call_alone = do
  start ← here
  c ← call_of
  mark_of mark.Semicolon
  at ← since start
  pure (roll-RawStmt (RawStmt-F.Do at c))

-- [ expr ] ";"
unfoldable pub read_returned : Reader (Option RawExpr)
read_returned = do
  none ← eat_mark mark.Semicolon
  if none then pure None else (do
    e ← expr
    mark_of mark.Semicolon
    pure (Some e))

-- "return" [ expr ] ";"
unfoldable pub return_of : Reader RawStmt
return_of = do
  start ← here
  keyword_of word_is.Return
  value ← read_returned
  at ← since start
  pure (roll-RawStmt (RawStmt-F.Return at value))

-- a keyword with ";", and where both stand
unfoldable pub alone : Keyword → Reader Place
alone word = do
  start ← here
  keyword_of word
  mark_of mark.Semicolon
  since start

-- "exit" ";" | "drop" ";" | "break" ";"
abbrev pub exit_alone : Reader RawStmt
exit_alone = (λ at. roll-RawStmt (RawStmt-F.Exit at)) <$> alone word_is.Exit

abbrev pub drop_alone : Reader RawStmt
drop_alone = (λ at. roll-RawStmt (RawStmt-F.Drop at)) <$> alone word_is.Drop

abbrev pub break_alone : Reader RawStmt
break_alone = (λ at. roll-RawStmt (RawStmt-F.Break at)) <$> alone word_is.Break

-- ";"
unfoldable pub empty : Reader RawStmt
empty = do
  start ← here
  mark_of mark.Semicolon
  at ← since start
  pure (roll-RawStmt (RawStmt-F.Empty at))

-- LABEL
abbrev pub label_in : Lexeme → Place → Option Val
label_in (lexeme.Number (pos n)) at = Some (val.Int (pos n))
label_in (lexeme.String s) at = Some (val.Text s)
label_in _ at = None

-- the label of a case, and its colon
unfoldable pub label : Reader Val
label = do
  v ← one label_in
  mark_of mark.Colon
  pure v

-- no list of statements goes on here
abbrev pub ends_list : Option Lexeme → Bool
ends_list (Some (lexeme.Mark mark.CloseCurly)) = true
ends_list (Some (lexeme.Keyword word_is.Case)) = true
ends_list (Some (lexeme.Keyword word_is.Default)) = true
ends_list _ = false

-- ---- statements with others in them, over what reads those; `true`: inside a `while` or a `switch`
module _ (inner : Bool → Reader RawStmt) where
  abbrev pub next_stmt : Bool → Reader (Option RawStmt)
  next_stmt loop = λ ts. (if ends_list (first ts) then pure None else Some <$> inner loop) ts

  -- { stmt }
  unfoldable pub stmts : Bool → Reader (List RawStmt)
  stmts loop = many (next_stmt loop) []

  -- "if" "(" expr ")" stmt [ "else" stmt ]
  unfoldable pub if_of : Bool → Reader RawStmt
  if_of loop = do
    start ← here
    keyword_of word_is.If
    e ← condition
    s ← inner loop
    other ← behind_keyword word_is.Else (inner loop)
    at ← since start
    pure (roll-RawStmt (RawStmt-F.If at e s other))

  -- "while" "(" expr ")" stmt
  unfoldable pub while_of : Reader RawStmt
  while_of = do
    start ← here
    keyword_of word_is.While
    e ← condition
    s ← inner true
    at ← since start
    pure (roll-RawStmt (RawStmt-F.While at e s))

  -- "{" { stmt } "}"
  unfoldable pub group : Bool → Reader RawStmt
  group loop = do
    start ← here
    mark_of mark.OpenCurly
    ss ← stmts loop
    mark_of mark.CloseCurly
    at ← since start
    pure (roll-RawStmt (RawStmt-F.Group at ss))

  -- LABEL ":" { stmt }
  unfoldable pub case_of : Reader (Val × List RawStmt)
  case_of = do
    v ← label
    ss ← stmts true
    pure (v, ss)

  -- { "case" LABEL ":" { stmt } }
  unfoldable pub cases : Reader (List (Val × List RawStmt))
  cases = many (behind_keyword word_is.Case case_of) []

  abbrev pub default_by : Option (List RawStmt) → List RawStmt
  default_by None = []
  default_by (Some ss) = ss

  -- [ "default" ":" { stmt } ]
  unfoldable pub default : Reader (List RawStmt)
  default = default_by <$> behind_keyword word_is.Default (mark_of mark.Colon >> stmts true)

  -- "switch" "(" expr ")" "{" .. "}"
  unfoldable pub switch_of : Reader RawStmt
  switch_of = do
    start ← here
    keyword_of word_is.Switch
    e ← condition
    mark_of mark.OpenCurly
    cs ← cases
    last ← default
    mark_of mark.CloseCurly
    at ← since start
    pure (roll-RawStmt (RawStmt-F.Switch at e cs last))

  abbrev pub stmt_by : Bool → Option Lexeme → Reader RawStmt
  stmt_by loop (Some (lexeme.Keyword word_is.If)) = if_of loop
  stmt_by loop (Some (lexeme.Keyword word_is.While)) = while_of
  stmt_by loop (Some (lexeme.Keyword word_is.Switch)) = switch_of
  stmt_by loop (Some (lexeme.Keyword word_is.Return)) = return_of
  stmt_by loop (Some (lexeme.Keyword word_is.Exit)) = exit_alone
  stmt_by loop (Some (lexeme.Keyword word_is.Drop)) = drop_alone
  stmt_by true (Some (lexeme.Keyword word_is.Break)) = break_alone
  stmt_by false (Some (lexeme.Keyword word_is.Break)) = refuse
  stmt_by loop (Some (lexeme.Mark mark.OpenCurly)) = group loop
  stmt_by loop (Some (lexeme.Mark mark.Semicolon)) = empty
  stmt_by loop (Some (lexeme.Variable v)) = assignment
  stmt_by loop _ = call_alone

  unfoldable pub stmt_over : Bool → Reader RawStmt
  stmt_over loop = λ ts. stmt_by loop (first ts) ts

-- So many statements may stand inside one another, this one among them.
unfoldable pub stmt : ℕ → Bool → Reader RawStmt
stmt zero loop = refuse
stmt (suc room) loop = stmt_over (stmt room) loop

-- the statements of a block
unfoldable pub body : Reader (List RawStmt)
body = stmts (stmt 64) false
