-- Expressions, as they are read.
use Rattle.std.specs.Prelude.{ℕ, zero, suc, Bool, true, false, List, [], ◌∷◌, Option, Some, None, if◌then◌else◌}
use Rattle.pv_values.specs.declared.refusal.Place.{Place}
use Rattle.pv_values.specs.declared.operator.BinOp.{BinOp}
use Rattle.pv_values.specs.declared.operator.BinOp.TheVariants.{Add, Sub, Mul, Div, Rem, Eq, Ne, Lt, Gt, Le, Ge}
use Rattle.cfg_tree.specs.declared.token.Lexeme.{Lexeme}
use Rattle.cfg_tree.specs.declared.token.Lexeme.TheVariants as lexeme
use Rattle.cfg_tree.specs.declared.token.Keyword.TheVariants as word_is
use Rattle.cfg_tree.specs.declared.token.Mark.TheVariants as mark
use Rattle.cfg_tree.specs.declared.raw.RawExpr.{RawExpr}
use Rattle.cfg_tree.specs.declared.raw.RawExpr.TheOpen.{RawExpr-F}
use Rattle.cfg_tree.specs.declared.raw.RawExpr.TheViews.{roll-RawExpr}
use Rattle.cfg_parse.specs.Reader.{Reader, ◌>>=◌, ◌>>◌, ◌<$>◌, pure, first, one, pass, eat_mark, mark_of, keyword_of, many}
use Rattle.cfg_parse.specs.Calls.{number, string, variable, call_of}

-- NUMBER | STRING | VAR | call
abbrev pub atom_by : Option Lexeme → Reader RawExpr
atom_by (Some (lexeme.Number n)) = (λ n. roll-RawExpr (RawExpr-F.Number n)) <$> number
atom_by (Some (lexeme.String s)) = (λ w. roll-RawExpr (RawExpr-F.String w)) <$> string
atom_by (Some (lexeme.Variable v)) = (λ v. roll-RawExpr (RawExpr-F.Variable v)) <$> variable
atom_by _ = (λ c. roll-RawExpr (RawExpr-F.Call c)) <$> call_of

unfoldable pub atom : Reader RawExpr
atom = λ ts. atom_by (first ts) ts

-- ---- operators

abbrev pub factor_operator : Option Lexeme → Option BinOp
factor_operator (Some (lexeme.Mark mark.Times)) = Some Mul
factor_operator (Some (lexeme.Mark mark.Divide)) = Some Div
factor_operator (Some (lexeme.Keyword word_is.Mod)) = Some Rem
factor_operator _ = None

abbrev pub term_operator : Option Lexeme → Option BinOp
term_operator (Some (lexeme.Mark mark.Plus)) = Some Add
term_operator (Some (lexeme.Mark mark.Minus)) = Some Sub
term_operator _ = None

abbrev pub comparison_operator : Option Lexeme → Option BinOp
comparison_operator (Some (lexeme.Mark mark.Equal)) = Some Eq
comparison_operator (Some (lexeme.Mark mark.NotEqual)) = Some Ne
comparison_operator (Some (lexeme.Mark mark.Less)) = Some Lt
comparison_operator (Some (lexeme.Mark mark.Greater)) = Some Gt
comparison_operator (Some (lexeme.Mark mark.LessOrEqual)) = Some Le
comparison_operator (Some (lexeme.Mark mark.GreaterOrEqual)) = Some Ge
comparison_operator _ = None

abbrev pub is_and : Option Lexeme → Bool
is_and (Some (lexeme.Mark mark.And)) = true
is_and (Some (lexeme.Keyword word_is.And)) = true
is_and _ = false

abbrev pub is_or : Option Lexeme → Bool
is_or (Some (lexeme.Mark mark.Or)) = true
is_or (Some (lexeme.Keyword word_is.Or)) = true
is_or _ = false

-- an operator and its right operand, if one of these operators comes next
abbrev pub linked_by : Reader RawExpr → Option BinOp → Reader (Option (BinOp × RawExpr))
linked_by operand None = pure None
linked_by operand (Some op) = pass >> (λ e. Some (op, e)) <$> operand

abbrev pub read_link : (Option Lexeme → Option BinOp) → Reader RawExpr → Reader (Option (BinOp × RawExpr))
read_link operator operand = λ ts. linked_by operand (operator (first ts)) ts

-- an operand after `&&` or `||`, if it comes next
abbrev pub read_joined : (Option Lexeme → Bool) → Reader RawExpr → Reader (Option RawExpr)
read_joined test operand = λ ts. (if test (first ts) then pass >> Some <$> operand else pure None) ts

-- an operand alone is itself
abbrev pub chain : RawExpr → List (BinOp × RawExpr) → RawExpr
chain e [] = e
chain e (link ∷ links) = roll-RawExpr (RawExpr-F.Chain e (link ∷ links))

abbrev pub all : RawExpr → List RawExpr → RawExpr
all e [] = e
all e (x ∷ more) = roll-RawExpr (RawExpr-F.All (e ∷ x ∷ more))

abbrev pub any : RawExpr → List RawExpr → RawExpr
any e [] = e
any e (x ∷ more) = roll-RawExpr (RawExpr-F.Any (e ∷ x ∷ more))

-- `==` is true, `!=` false
abbrev pub is_equal_in : Lexeme → Place → Option Bool
is_equal_in (lexeme.Mark mark.Equal) at = Some true
is_equal_in (lexeme.Mark mark.NotEqual) at = Some false
is_equal_in _ at = None

-- "uri" ("==" | "!=") "read_myself"
unfoldable pub read_myself : Reader RawExpr
read_myself = do
  keyword_of word_is.Uri
  is ← one is_equal_in
  keyword_of word_is.Myself
  pure (roll-RawExpr (RawExpr-F.Myself is))

-- ---- the levels, over what reads a `un`
module _ (unary : Reader RawExpr) where
  -- mul = un { ("*" | "/" | "mod") un }
  unfoldable pub more_factors : List (BinOp × RawExpr) → Reader (List (BinOp × RawExpr))
  more_factors = many (read_link factor_operator unary)

  unfoldable pub product : Reader RawExpr
  product = do
    e ← unary
    links ← more_factors []
    pure (chain e links)

  -- sum = mul { ("+" | "-") mul }
  unfoldable pub more_terms : List (BinOp × RawExpr) → Reader (List (BinOp × RawExpr))
  more_terms = many (read_link term_operator product)

  unfoldable pub sum : Reader RawExpr
  sum = do
    e ← product
    links ← more_terms []
    pure (chain e links)

  -- what follows the first sum of a comparison
  abbrev pub compared_by : RawExpr → Option BinOp → Reader RawExpr
  compared_by a None = pure a
  compared_by a (Some op) = pass >> (λ b. roll-RawExpr (RawExpr-F.Chain a ((op, b) ∷ []))) <$> sum

  unfoldable pub compared : RawExpr → Reader RawExpr
  compared a = do
    is_match ← eat_mark mark.Matches
    if is_match then (λ w. roll-RawExpr (RawExpr-F.Matches a w)) <$> string
        else (λ ts. compared_by a (comparison_operator (first ts)) ts)

  -- cmp = sum [ ("==" | "!=" | "<" | ">" | "<=" | ">=") sum | "=~" STRING ] | "uri" ("==" | "!=") "read_myself"
  abbrev pub comparison_by : Option Lexeme → Reader RawExpr
  comparison_by (Some (lexeme.Keyword word_is.Uri)) = read_myself
  comparison_by _ = sum >>= compared

  unfoldable pub comparison : Reader RawExpr
  comparison = λ ts. comparison_by (first ts) ts

  -- and = cmp { ("&&" | "and") cmp }
  unfoldable pub more_of_all : List RawExpr → Reader (List RawExpr)
  more_of_all = many (read_joined is_and comparison)

  unfoldable pub all_of : Reader RawExpr
  all_of = do
    e ← comparison
    more ← more_of_all []
    pure (all e more)

  -- expr = and { ("||" | "or") and }
  unfoldable pub more_of_any : List RawExpr → Reader (List RawExpr)
  more_of_any = many (read_joined is_or all_of)

  unfoldable pub any_of : Reader RawExpr
  any_of = do
    e ← all_of
    more ← more_of_any []
    pure (any e more)

  -- "(" expr ")"
  unfoldable pub bracketed : Reader RawExpr
  bracketed = do
    mark_of mark.OpenRound
    e ← any_of
    mark_of mark.CloseRound
    pure e

  -- un = ("!" | "not" | "-") un | "(" expr ")" | ..
  abbrev pub prefixed_by : Option Lexeme → Reader RawExpr
  prefixed_by (Some (lexeme.Mark mark.Not)) = pass >> (λ e. roll-RawExpr (RawExpr-F.Not e)) <$> unary
  prefixed_by (Some (lexeme.Keyword word_is.Not)) = pass >> (λ e. roll-RawExpr (RawExpr-F.Not e)) <$> unary
  prefixed_by (Some (lexeme.Mark mark.Minus)) = pass >> (λ e. roll-RawExpr (RawExpr-F.Negative e)) <$> unary
  prefixed_by (Some (lexeme.Mark mark.OpenRound)) = bracketed
  prefixed_by _ = atom

  unfoldable pub prefixed : Reader RawExpr
  prefixed = λ ts. prefixed_by (first ts) ts

-- So many brackets and prefix operators may stand inside one another.
unfoldable pub unary : ℕ → Reader RawExpr
unary zero = atom
unary (suc room) = prefixed (unary room)

unfoldable pub read_expr : ℕ → Reader RawExpr
read_expr room = any_of (unary room)

unfoldable pub expr : Reader RawExpr
expr = read_expr 31
