-- What the tokens before a place allow at it.
use Rattle.std.specs.Prelude.{ℕ, List, codes, if◌then◌else◌}
use Rattle.std.specs.Str.{bytes_eq}
use Rattle.cfg_tree.specs.declared.token.Lexeme.{Lexeme}
use Rattle.cfg_tree.specs.declared.token.Lexeme.TheVariants as lexeme
use Rattle.cfg_tree.specs.declared.token.Keyword as keyword
use Rattle.cfg_tree.specs.declared.token.Keyword.TheVariants as word
use Rattle.cfg_tree.specs.declared.token.Mark as marks
use Rattle.cfg_tree.specs.declared.token.Mark.TheVariants as mark
use Rattle.cfg_lex.specs.declared.context.TokenContext.{TokenContext}
use Rattle.cfg_lex.specs.declared.context.TokenContext.TheVariants.{Plain, BehindListen, BehindRoute, Address, BlockName}

-- after the name `listen`
abbrev pub behind_name : List ℕ → TokenContext
behind_name name = if bytes_eq name (codes "listen") then BehindListen else Plain

-- after the word `route`
abbrev pub context_behind_keyword : keyword.Keyword → TokenContext
context_behind_keyword word.Route = BehindRoute
context_behind_keyword _ = Plain

-- a block's name may stand after `[`
abbrev pub context_behind_mark : TokenContext → marks.Mark → TokenContext
context_behind_mark _ mark.OpenSquare = BlockName
-- and after the `(` that follows `route`
context_behind_mark BehindRoute mark.OpenRound = BlockName
-- LISTEN may stand after the name `listen` and `=`
context_behind_mark BehindListen mark.Assign = Address
context_behind_mark _ _ = Plain

-- what is allowed after a token, by what was allowed at it
unfoldable pub behind : TokenContext → Lexeme → TokenContext
behind context (lexeme.Name name) = behind_name name
behind context (lexeme.Keyword k) = context_behind_keyword k
behind context (lexeme.Mark m) = context_behind_mark context m
behind context (lexeme.Number n) = Plain
behind context (lexeme.String s) = Plain
behind context (lexeme.Variable v) = Plain
behind context (lexeme.Listen l) = Plain
behind context (lexeme.BlockName s) = Plain
