-- Bytes by the names that RFC 3261, section 25.1, and ASCII give them.
use Rattle.std.specs.Prelude.{ℕ}

abbrev pub HTAB : ℕ
HTAB = 9

abbrev pub LF : ℕ
LF = 10

abbrev pub CR : ℕ
CR = 13

abbrev pub SP : ℕ
SP = 32

abbrev pub DQUOTE : ℕ
DQUOTE = 34

abbrev pub COMMA : ℕ
COMMA = 44

abbrev pub DOT : ℕ
DOT = 46

abbrev pub SLASH : ℕ
SLASH = 47

abbrev pub COLON : ℕ
COLON = 58

abbrev pub SEMI : ℕ
SEMI = 59

abbrev pub LAQUOT : ℕ
LAQUOT = 60

abbrev pub EQUAL : ℕ
EQUAL = 61

abbrev pub RAQUOT : ℕ
RAQUOT = 62

abbrev pub QUESTION : ℕ
QUESTION = 63

abbrev pub AT : ℕ
AT = 64

abbrev pub BACKSLASH : ℕ
BACKSLASH = 92

abbrev pub DEL : ℕ
DEL = 127
