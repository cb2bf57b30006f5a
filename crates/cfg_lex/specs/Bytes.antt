-- The classes of bytes of which the language has runs.
use Rattle.std.specs.Prelude.{ℕ, ◌==◌, Bool, not, ◌||◌, codes}
use Rattle.std.specs.Char.{is_ascii_alphanumeric, is_ascii_digit}
use Rattle.sip_words.specs.Bytes.{is_one_of}
use Rattle.cfg_tree.specs.Variables.{goes_on}
use Rattle.cfg_lex.specs.declared.bytes.RunClass.{RunClass}
use Rattle.cfg_lex.specs.declared.bytes.RunClass.TheVariants.{NameByte, Digit, BlockName, Other}
use Rattle.sip_words.specs.ByteNames.{DQUOTE}
use Rattle.cfg_lex.specs.ByteNames.{QUOTE}

-- SP, HTAB, CR, LF
abbrev pub is_blank : ℕ → Bool
is_blank b = is_one_of (codes " \t\r\n") b

-- a byte of a block's name
abbrev pub is_block_byte : ℕ → Bool
is_block_byte b = is_ascii_alphanumeric b || is_one_of (codes "_-:.") b

abbrev pub is_quote : ℕ → Bool
is_quote b = (b == DQUOTE) || (b == QUOTE)

abbrev pub class_has : RunClass → ℕ → Bool
class_has NameByte = goes_on
class_has Digit = is_ascii_digit
class_has BlockName = is_block_byte
class_has (Other m) = λ b. not (b == m)
