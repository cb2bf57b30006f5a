-- Bytes of tokens by name. The others are in `ByteNames` of `cfg_tree` and of `sip_words`.
use Rattle.std.specs.Prelude.{ℕ}

abbrev pub EXCLAMATION : ℕ
EXCLAMATION = 33

abbrev pub HASH : ℕ
HASH = 35

abbrev pub AMPERSAND : ℕ
AMPERSAND = 38

abbrev pub QUOTE : ℕ
QUOTE = 39

abbrev pub STAR : ℕ
STAR = 42

abbrev pub PLUS : ℕ
PLUS = 43

abbrev pub MINUS : ℕ
MINUS = 45

abbrev pub LSQUARE : ℕ
LSQUARE = 91

abbrev pub RSQUARE : ℕ
RSQUARE = 93

abbrev pub LETTER_N : ℕ
LETTER_N = 110

abbrev pub LETTER_R : ℕ
LETTER_R = 114

abbrev pub LETTER_T : ℕ
LETTER_T = 116

abbrev pub BAR : ℕ
BAR = 124

abbrev pub TILDE : ℕ
TILDE = 126
