-- The lines of a head, as functions of a text and a place in it (RFC 3261, sections 7 and 7.3.1).
use Rattle.std.specs.Prelude.{ℕ, zero, suc, ◌+◌, ◌-◌, ◌==◌, not, Bool, cond, List, length, drop, take, Option, Some, None, if◌then◌else◌, slice_range, codes}
use Rattle.std.specs.List.{prefix_len, after_last}
use Rattle.std.specs.Str.{str_eq_ignore_ascii_case}
use Rattle.sip_words.specs.ByteNames.{HTAB, LF, CR, SP}
use Rattle.sip_words.specs.declared.Span.{Span}
use Rattle.sip_words.specs.Bytes.{◌or◌, ◌and◌, is_wsp}
use Rattle.sip_words.specs.Spans.{span}
use Rattle.sip_words.specs.Words.{◌>>=◌, stands}
use Rattle.sip_words.specs.Many.{Next, Item, Done, Wrong, many}

-- CR or LF
abbrev pub is_break : ℕ → Bool
is_break b = (b == CR) or (b == LF)

-- a byte that may stand in a line: neither NUL, nor CR, nor LF
abbrev pub is_plain : ℕ → Bool
is_plain b = not ((b == 0) or is_break b)

-- where the longest run of plain bytes from i on ends, and that of SP and HTAB
unfoldable pub plain_end : List ℕ → ℕ → ℕ
plain_end text i = i + prefix_len is_plain (drop i text)

unfoldable pub wsp_end : List ℕ → ℕ → ℕ
wsp_end text i = i + prefix_len is_wsp (drop i text)

-- how many bytes of CR and LF stand in front
unfoldable pub skipped : List ℕ → ℕ
skipped text = prefix_len is_break text

unfoldable pub is_crlf : List ℕ → ℕ → Bool
is_crlf text i = stands CR text i and stands LF text (i + 1)

-- where the line of plain bytes that begins at i ends, with a CRLF behind it
unfoldable pub line_end : List ℕ → ℕ → Option ℕ
line_end text i = if is_crlf text (plain_end text i) then Some (plain_end text i) else None

-- a line that begins with SP or HTAB continues the one before it
unfoldable pub continues : List ℕ → ℕ → Bool
continues text i = stands SP text i or stands HTAB text i

abbrev pub line_item : Option ℕ → Next ℕ
line_item None = Wrong
line_item (Some end) = Item end (end + 2)

unfoldable pub next_line : List ℕ → ℕ → Next ℕ
next_line text i = if continues text i then line_item (line_end text i) else Done

-- the ends of the continuation lines from i on, and the place behind them
unfoldable pub lines_at : List ℕ → ℕ → Option (List ℕ × ℕ)
lines_at text i = many (length text) (next_line text) i

-- the place behind a line and its continuation lines
unfoldable pub folded_end : List ℕ → ℕ → Option ℕ
folded_end text i = do
  end ← line_end text i
  lines ← lines_at text (end + 2)
  Some lines.1

-- the first of n places from i on that passes
abbrev pub first_place : (ℕ → Bool) → ℕ → ℕ → Option ℕ
first_place p zero i = None
first_place p (suc n) i = cond (p i) (Some i) (first_place p n (i + 1))

-- the first CRLF from i on
unfoldable pub first_crlf : List ℕ → ℕ → Option ℕ
first_crlf text i = first_place (is_crlf text) (length text - i) i

-- the bytes begin with SIP/
unfoldable pub begins_sip : List ℕ → Bool
begins_sip bytes = str_eq_ignore_ascii_case (take 4 bytes) (codes "SIP/")

-- a first line of SIP: it, or what stands behind its last SP, begins with SIP/
unfoldable pub speaks_sip : List ℕ → Bool
speaks_sip line = begins_sip line or begins_sip (after_last (λ b. b == SP) line)

abbrev pub line_of : List ℕ → Span → List ℕ
line_of text s = slice_range text s.from s.to

-- the first line behind the CR and LF in front, where it is one of SIP
unfoldable pub start_line : List ℕ → Option Span
start_line text = do
  end ← first_crlf text (skipped text)
  if speaks_sip (slice_range text (skipped text) end) then Some (span (skipped text) end) else None
