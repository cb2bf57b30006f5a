-- A text that is given one field more, before its empty line.
use Rattle.std.specs.Prelude.{ℕ, ◌+◌, Bool, List, ◌++◌, take, drop, Option, Some, None, option_map}
use Rattle.sip_words.specs.Bytes.{◌and◌}
use Rattle.sip_scan.specs.Lines.{skipped, is_crlf}
use Rattle.sip_msg.specs.Basis.{first_from}

-- the CRLF at i ends a line, and the line behind it is empty
unfoldable pub ends_before_empty : List ℕ → ℕ → Bool
ends_before_empty text i = is_crlf text i and is_crlf text (i + 2)

-- where the first empty line behind the CR and LF in front begins
unfoldable pub empty_line : List ℕ → Option ℕ
empty_line text = option_map (λ i. i + 2) (first_from (ends_before_empty text) text (skipped text))

-- before the byte at a place; a text without an empty line stays as it is
abbrev pub put_at : Option ℕ → List ℕ → List ℕ → List ℕ
put_at None text field = text
put_at (Some place) text field = take place text ++ (field ++ drop place text)

unfoldable pub with_field : List ℕ → List ℕ → List ℕ
with_field text field = put_at (empty_line text) text field
