-- The classes of bytes that the grammar names (RFC 3261, section 25.1).
use Rattle.std.specs.Prelude.{ℕ, Bool, true, false, not, List, ◌==◌, nat_lt, cond, codes}
use Rattle.std.specs.Char.{is_ascii_alphabetic, is_ascii_alphanumeric, is_ascii_digit}
use Rattle.std.specs.List.{list_any}
use Rattle.sip_words.specs.ByteNames.{HTAB, LF, CR, SP, RAQUOT, AT, DEL}
use Rattle.sip_words.specs.declared.bytes.Class.{Class}
use Rattle.sip_words.specs.declared.bytes.Class.TheVariants.{Token, Name, Digit, Letter, Scheme, Value, UriValue, Bare, InBrackets, Visible, User, Password, BeforeAt, Unbroken, Wsp, InLine}

infixr 6 ◌or◌
abbrev pub ◌or◌ : Bool → Bool → Bool
a or b = cond a true b

infixr 7 ◌and◌
abbrev pub ◌and◌ : Bool → Bool → Bool
a and b = cond a b false

-- SP or HTAB
abbrev pub is_wsp : ℕ → Bool
is_wsp b = (b == SP) or (b == HTAB)

-- neither DEL, nor SP, nor below SP
abbrev pub is_visible : ℕ → Bool
is_visible b = nat_lt SP b and not (b == DEL)

-- one of these bytes
abbrev pub is_one_of : List ℕ → ℕ → Bool
is_one_of bytes b = list_any (λ m. m == b) bytes

unfoldable pub has : Class → ℕ → Bool
has Token b = is_ascii_alphanumeric b or is_one_of (codes "-.!%*_+`'~") b
has Name b = is_ascii_alphanumeric b or is_one_of (codes "-._") b
has Digit b = is_ascii_digit b
has Letter b = is_ascii_alphabetic b
has Scheme b = is_ascii_alphanumeric b or is_one_of (codes "+-.") b
has Value b = not (is_one_of (codes ";,\"<> \t\r\n") b)
has UriValue b = not (is_one_of (codes ";,\"<> \t?") b)
has Bare b = not (is_one_of (codes ";,<> \t\r\n") b)
has InBrackets b = not (b == RAQUOT)
has Visible b = is_visible b
has User b = is_visible b and not (is_one_of (codes ":@") b)
has Password b = is_visible b and not (b == AT)
has BeforeAt b = not (b == AT)
has Unbroken b = not (is_one_of (codes " \t\r\n") b)
has Wsp b = is_wsp b
has InLine b = not ((b == 0) or ((b == CR) or (b == LF)))
