-- What a response to a malformed request rests on.
use Rattle.std.specs.Prelude.{ℕ, ◌+◌, ◌-◌, Bool, false, not, List, length, take, Option, Some, None, nat_lt, if◌then◌else◌, slice_range, codes}
use Rattle.std.specs.Result.{result_ok}
use Rattle.std.specs.Str.{bytes_eq}
use Rattle.sip_words.specs.ByteNames.{SP, DOT}
use Rattle.sip_words.specs.declared.bytes.Class.TheVariants.{Token, Visible, Digit}
use Rattle.sip_words.specs.Bytes.{◌or◌, ◌and◌}
use Rattle.sip_words.specs.Words.{◌>>=◌, is_the, stands, word_at, word_end}
use Rattle.sip_scan.specs.Lines.{first_place, start_line}
use Rattle.sip_scan.specs.Head.{scanned}
use Rattle.sip_msg.specs.declared.basis.Basis.{Basis}
use Rattle.sip_msg.specs.Values.{via_of}

-- SIP/ and two numbers with a dot between: the end of the version
unfoldable pub version_end : List ℕ → ℕ → Option ℕ
version_end text i = do
  major ← word_at (codes "SIP/") text i
  dot ← word_end Digit text major
  if stands DOT text dot then word_end Digit text (dot + 1) else None

-- a SP at i, and behind it a version that is the rest of the line
unfoldable pub version_at_space : List ℕ → ℕ → Bool
version_at_space text i = stands SP text i and is_the (length text) (version_end text (i + 1))

abbrev pub space_at : List ℕ → Option ℕ → Bool
space_at text None = false
space_at text (Some end) = stands SP text end

-- a SP at i, and behind it a URI up to another SP
unfoldable pub uri_at_space : List ℕ → ℕ → Bool
uri_at_space text i = stands SP text i and space_at text (word_end Visible text (i + 1))

-- the first place from i on that passes
unfoldable pub first_from : (ℕ → Bool) → List ℕ → ℕ → Option ℕ
first_from p text i = first_place p (length text - i) i

-- a first line that can be answered by a response: its first part between SPs is a method other than ACK, some part in its middle is a URI, and its last one is a version; and whether that version is 2.0
unfoldable pub answerable_at : List ℕ → ℕ → Option Bool
answerable_at text i = do
  method_end ← word_end Token text i
  uri ← first_from (uri_at_space text) text method_end
  version ← first_from (version_at_space text) text method_end
  if not (stands SP text method_end) or bytes_eq (slice_range text i method_end) (codes "ACK") then None else Some (is_the (length text) (word_at (codes "SIP/2.0") text (version + 1)))

-- the basis that these bytes have, the first of a datagram
unfoldable pub basis_in : List ℕ → Bool → Option Basis
basis_in front too_long = do
  line ← start_line front
  version_ok ← answerable_at (take line.to front) line.from
  head ← result_ok (scanned front)
  via ← via_of front head.fields.items
  Some record { head = head; via = via; version_ok = version_ok; too_long = too_long }

-- the basis of a response, which the first 8,192 bytes have or have not
abbrev pub basis_of : List ℕ → Option Basis
basis_of b = basis_in (take 8192 b) (nat_lt 8192 (length b))
