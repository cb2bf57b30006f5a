-- The text that `sim` prints, byte by byte.
use Rattle.std.specs.Prelude.{ℕ, ◌-◌, ◌==◌, Bool, ◌&&◌, nat_le, List, [], ◌∷◌, ◌++◌, length, map, take, drop, if◌then◌else◌, codes}
use Rattle.std.specs.List.{flat_map, list_all, onto_first}
use Rattle.std.specs.Str.{bytes_eq}
use Rattle.std.specs.Fmt.{decimal}
use Rattle.hex.specs.Hex.{encode_lower}
use Rattle.numerals.specs.Numerals.{socket}
use Rattle.sim_text.specs.declared.item.Cause.{Cause}
use Rattle.sim_text.specs.declared.item.Cause.TheVariants as why
use Rattle.sim_text.specs.declared.item.TraceItem.{TraceItem}
use Rattle.sim_text.specs.declared.item.TraceItem.TheVariants.{Out, Drop, Log, Fail}

-- ---- a datagram

abbrev pub is_crlf : ℕ → ℕ → Bool
is_crlf a b = (a == 13) && (b == 10)

-- a datagram, cut after each CRLF
unfoldable pub pieces : List ℕ → List (List ℕ)
pieces [] = []
pieces (a ∷ []) = (a ∷ []) ∷ []
pieces (a ∷ b ∷ rest) = if is_crlf a b then (a ∷ b ∷ []) ∷ pieces rest else onto_first a (pieces (b ∷ rest))

-- 0x20 to 0x7E
abbrev pub is_printable : ℕ → Bool
is_printable b = nat_le 32 b && nat_le b 126

-- the piece ends with CRLF, and its other bytes are printable
abbrev pub is_text_line : List ℕ → Bool
is_text_line piece =
    let n = length piece - 2 in
    nat_le 2 (length piece) && (bytes_eq (drop n piece) (13 ∷ 10 ∷ []) && list_all is_printable (take n piece))

-- a piece is shown as text where it can be, else in lower-case hexadecimal
abbrev pub shown_piece : List ℕ → List ℕ
shown_piece piece =
    if is_text_line piece then (124 ∷ take (length piece - 2) piece) ++ 10 ∷ []
    else (43 ∷ encode_lower piece) ++ 10 ∷ []

abbrev pub shown_datagram : List ℕ → List ℕ
shown_datagram bytes = flat_map shown_piece (pieces bytes)

-- ---- an item

-- why a datagram was dropped
abbrev pub cause_name : Cause → List ℕ
cause_name why.Keepalive = codes "keepalive"
cause_name why.NotSip = codes "not_sip"
cause_name why.BadReply = codes "bad_reply"
cause_name why.StrayReply = codes "stray_reply"
cause_name why.Ended = codes "ended"
cause_name why.ScriptDrop = codes "script_drop"
cause_name why.ScriptSilent = codes "script_silent"
cause_name why.AckUnroutable = codes "ack_unroutable"
cause_name why.TooLong = codes "too_long"

-- a byte of a log's text that isn't printable is shown as `?`
abbrev pub shown_byte : ℕ → ℕ
shown_byte b = if is_printable b then b else 63

-- the word of an item, a SP, its moment, and a SP
abbrev pub headed : List ℕ → ℕ → List ℕ
headed word at = word ++ (32 ∷ (decimal at ++ 32 ∷ []))

-- out MS IP:PORT, and the datagram; drop MS CAUSE; log MS TEXT; fail MS IP:PORT
abbrev pub item_text : TraceItem → List ℕ
item_text (Out at to bytes) = headed (codes "out") at ++ (socket to ++ (10 ∷ shown_datagram bytes))
item_text (Drop at cause) = headed (codes "drop") at ++ (cause_name cause ++ 10 ∷ [])
item_text (Log at text) = headed (codes "log") at ++ (map shown_byte text ++ 10 ∷ [])
item_text (Fail at to) = headed (codes "fail") at ++ (socket to ++ 10 ∷ [])

-- ---- the whole

-- end MS live N
abbrev pub end_text : ℕ → ℕ → List ℕ
end_text at live = headed (codes "end") at ++ (codes "live " ++ (decimal live ++ 10 ∷ []))

abbrev pub items_text : List TraceItem → List ℕ
items_text items = flat_map item_text items

-- the items in order, and the end
abbrev pub trace : List TraceItem → ℕ → ℕ → List ℕ
trace items end live = items_text items ++ end_text end live
