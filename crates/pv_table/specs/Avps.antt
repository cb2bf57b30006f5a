-- AVPs, as a list with the newest first.
use Rattle.std.specs.Prelude.{ℕ, Bool, List, Option, Some, None, position, remove}
use Rattle.std.specs.List.{find}
use Rattle.std.specs.Str.{bytes_eq}
use Rattle.pv_values.specs.declared.value.Val.{Val}
use Rattle.pv_values.specs.declared.value.Val.TheVariants.{Null}
use Rattle.pv_table.specs.declared.avps.Avp.{Avp}

-- names are compared byte by byte
abbrev pub is_named : List ℕ → Avp → Bool
is_named name avp = bytes_eq avp.name name

-- the value of an AVP; Null without one
abbrev pub value_in : Option Avp → Val
value_in None = Null
value_in (Some avp) = avp.value

-- the newest value of a name
abbrev pub newest : List ℕ → List Avp → Val
newest name avps = value_in (find (is_named name) avps)

-- the AVPs without the one at this place
abbrev pub without : List Avp → Option ℕ → List Avp
without avps None = avps
without avps (Some place) = remove avps place

-- the AVPs without the newest one of a name
abbrev pub without_newest : List ℕ → List Avp → List Avp
without_newest name avps = without avps (position (is_named name) avps)
