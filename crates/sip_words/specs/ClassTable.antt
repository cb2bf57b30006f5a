-- How the table of bytes shows classes.
use Rattle.std.specs.Prelude.{ℕ}
use Rattle.sip_words.specs.declared.bytes.Class.{Class}
use Rattle.sip_words.specs.declared.bytes.Class.TheVariants.{Token, Name, Digit, Letter, Scheme, Value, UriValue, Bare, InBrackets, Visible, User, Password, BeforeAt, Unbroken, Wsp, InLine}

-- each class has a bit of its own
abbrev pub class_bit : Class → ℕ
class_bit Token = 0x0001
class_bit Name = 0x0002
class_bit Digit = 0x0004
class_bit Letter = 0x0008
class_bit Scheme = 0x0010
class_bit Value = 0x0020
class_bit UriValue = 0x0040
class_bit Bare = 0x0080
class_bit InBrackets = 0x0100
class_bit Visible = 0x0200
class_bit User = 0x0400
class_bit Password = 0x0800
class_bit BeforeAt = 0x1000
class_bit Unbroken = 0x2000
class_bit Wsp = 0x4000
class_bit InLine = 0x8000
