-- The table of classes is held against their definitions at each of the 256 bytes, by computing.
use Rattle.std.proofs.Common.{◌≡◌, ℕ, ◌<◌, Bool, not, ◌==◌, get_or, refl}
use Rattle.std.specs.Prelude.{bit_and}
use Rattle.std.proofs.lemmas.Bool.{agree_below_at}
use Rattle.sip_words.specs.declared.bytes.Class.{Class}
use Rattle.sip_words.specs.declared.bytes.Class.TheVariants.{Token, Name, Digit, Letter, Scheme, Value, UriValue, Bare, InBrackets, Visible, User, Password, BeforeAt, Unbroken, Wsp, InLine}
use Rattle.sip_words.specs.declared.bytes.TheConstants.{CLASSES}
use Rattle.sip_words.specs.Bytes.{has}
use Rattle.sip_words.specs.ClassTable.{class_bit}

-- the table's answer
abbrev pub shows : Class → ℕ → Bool
shows class b = not (bit_and (get_or CLASSES b 0) (class_bit class) == 0)

pub table_shows : (class : Class) (b : ℕ) → b < 256 → shows class b ≡ has class b
unfolding has
table_shows Token b lt = agree_below_at (shows Token) (has Token) 256 b refl lt
table_shows Name b lt = agree_below_at (shows Name) (has Name) 256 b refl lt
table_shows Digit b lt = agree_below_at (shows Digit) (has Digit) 256 b refl lt
table_shows Letter b lt = agree_below_at (shows Letter) (has Letter) 256 b refl lt
table_shows Scheme b lt = agree_below_at (shows Scheme) (has Scheme) 256 b refl lt
table_shows Value b lt = agree_below_at (shows Value) (has Value) 256 b refl lt
table_shows UriValue b lt = agree_below_at (shows UriValue) (has UriValue) 256 b refl lt
table_shows Bare b lt = agree_below_at (shows Bare) (has Bare) 256 b refl lt
table_shows InBrackets b lt = agree_below_at (shows InBrackets) (has InBrackets) 256 b refl lt
table_shows Visible b lt = agree_below_at (shows Visible) (has Visible) 256 b refl lt
table_shows User b lt = agree_below_at (shows User) (has User) 256 b refl lt
table_shows Password b lt = agree_below_at (shows Password) (has Password) 256 b refl lt
table_shows BeforeAt b lt = agree_below_at (shows BeforeAt) (has BeforeAt) 256 b refl lt
table_shows Unbroken b lt = agree_below_at (shows Unbroken) (has Unbroken) 256 b refl lt
table_shows Wsp b lt = agree_below_at (shows Wsp) (has Wsp) 256 b refl lt
table_shows InLine b lt = agree_below_at (shows InLine) (has InLine) 256 b refl lt
