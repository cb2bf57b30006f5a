-- Operators and brackets: those of two bytes, and those of one.
use Rattle.std.specs.Prelude.{ℕ, ◌==◌, ◌&&◌, Option, Some, None, if◌then◌else◌}
use Rattle.cfg_tree.specs.declared.token.Mark as marks
use Rattle.cfg_tree.specs.declared.token.Mark.TheVariants.{OpenRound, CloseRound, OpenSquare, CloseSquare, OpenCurly, CloseCurly, Comma, Semicolon, Colon, Assign, Equal, NotEqual, Less, Greater, LessOrEqual, GreaterOrEqual, Matches, Or, And, Not, Plus, Minus, Times, Divide}
use Rattle.sip_words.specs.ByteNames.{COMMA, SLASH, COLON, SEMI, LAQUOT, EQUAL, RAQUOT}
use Rattle.cfg_tree.specs.ByteNames.{LPAREN, RPAREN, LBRACE, RBRACE}
use Rattle.cfg_lex.specs.ByteNames.{EXCLAMATION, AMPERSAND, STAR, PLUS, MINUS, LSQUARE, RSQUARE, BAR, TILDE}

-- == != <= >= =~ || &&
unfoldable pub two_byte_mark : ℕ → ℕ → Option marks.Mark
two_byte_mark a b =
    if (a == EQUAL) && (b == EQUAL) then Some Equal
    else if (a == EXCLAMATION) && (b == EQUAL) then Some NotEqual
    else if (a == LAQUOT) && (b == EQUAL) then Some LessOrEqual
    else if (a == RAQUOT) && (b == EQUAL) then Some GreaterOrEqual
    else if (a == EQUAL) && (b == TILDE) then Some Matches
    else if (a == BAR) && (b == BAR) then Some Or
    else if (a == AMPERSAND) && (b == AMPERSAND) then Some And
    else None

-- ( ) [ ] { } , ; :
unfoldable pub bracket : ℕ → Option marks.Mark
bracket a =
    if a == LPAREN then Some OpenRound
    else if a == RPAREN then Some CloseRound
    else if a == LSQUARE then Some OpenSquare
    else if a == RSQUARE then Some CloseSquare
    else if a == LBRACE then Some OpenCurly
    else if a == RBRACE then Some CloseCurly
    else if a == COMMA then Some Comma
    else if a == SEMI then Some Semicolon
    else if a == COLON then Some Colon
    else None

-- and = < > ! + - * /
unfoldable pub one_byte_mark : ℕ → Option marks.Mark
one_byte_mark a =
    if a == EQUAL then Some Assign
    else if a == LAQUOT then Some Less
    else if a == RAQUOT then Some Greater
    else if a == EXCLAMATION then Some Not
    else if a == PLUS then Some Plus
    else if a == MINUS then Some Minus
    else if a == STAR then Some Times
    else if a == SLASH then Some Divide
    else bracket a
