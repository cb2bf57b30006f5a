-- Bytes of a script by name. Those that SIP has too are in `ByteNames` of `sip_words`.
use Rattle.std.specs.Prelude.{ℕ}

abbrev pub DOLLAR : ℕ
DOLLAR = 36

abbrev pub LPAREN : ℕ
LPAREN = 40

abbrev pub RPAREN : ℕ
RPAREN = 41

abbrev pub ZERO : ℕ
ZERO = 48

abbrev pub UNDERSCORE : ℕ
UNDERSCORE = 95

abbrev pub LETTER_S : ℕ
LETTER_S = 115

abbrev pub LBRACE : ℕ
LBRACE = 123

abbrev pub RBRACE : ℕ
RBRACE = 125
