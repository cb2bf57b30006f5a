-- The fields From, To and Route, as functions of a text and the place where a value and the LWS before it begin.
use Rattle.std.specs.Prelude.{ℕ, ◌+◌, ◌<◌, ◌≤◌, List, length, take, Option, Some, None, IfSome, if◌then◌else◌, slice_range}
use Rattle.std.specs.Option.{option_map}
use Rattle.sip_words.specs.ByteNames.{DQUOTE, LAQUOT, RAQUOT}
use Rattle.sip_words.specs.declared.Span.{Span}
use Rattle.sip_words.specs.declared.bytes.Class.TheVariants.{Token, Bare, InBrackets}
use Rattle.sip_words.specs.declared.separators.Surroundings.TheVariants.{Field}
use Rattle.sip_words.specs.declared.params.Param.{Param}
use Rattle.sip_words.specs.Bytes.{◌and◌}
use Rattle.sip_words.specs.Spans.{span, IsBetween}
use Rattle.sip_words.specs.Words.{◌>>=◌, run_end, word_end, lws_end, quoted_end, stands}
use Rattle.sip_words.specs.Many.{Next, Item, Done, many}
use Rattle.sip_words.specs.Params.{params_at, known}
use Rattle.sip_fields.specs.declared.name_addr.NameAddr.{NameAddr}
use Rattle.sip_fields.specs.Tail.{next_at}
use Rattle.sip_fields.specs.Uri.{is_absolute, uri_at}

-- a token and the LWS behind it
abbrev pub name_item : List ℕ → Option ℕ → Next ℕ
name_item text None = Done
name_item text (Some end) = Item end (lws_end text end)

unfoldable pub next_name : List ℕ → ℕ → Next ℕ
next_name text i = name_item text (word_end Token text i)

-- the end of tokens, each with the LWS behind it
unfoldable pub names_end : List ℕ → ℕ → Option ℕ
names_end text i = option_map (λ names. names.1) (many (length text) (next_name text) i)

-- the end of a display name and the LWS behind it: a quoted string, tokens, or nothing
unfoldable pub display_end : List ℕ → ℕ → Option ℕ
display_end text i =
    if stands DQUOTE text i
    then (do
      end ← quoted_end text (i + 1)
      Some (lws_end text end))
    else names_end text i

-- the place behind the < of a display name
unfoldable pub open_at : List ℕ → ℕ → Option ℕ
open_at text i = do
  place ← display_end text i
  if stands LAQUOT text place then Some (place + 1) else None

-- the URI up to a >, and the place behind it
unfoldable pub closed_uri : List ℕ → ℕ → Option (Span × ℕ)
closed_uri text i =
    let end = run_end InBrackets text i in
    if stands RAQUOT text end and is_absolute (slice_range text i end) then Some (span i end, end + 1) else None

-- the URI without < and >, and its end
unfoldable pub bare_uri : List ℕ → ℕ → Option (Span × ℕ)
bare_uri text i = do
  end ← word_end Bare text i
  if is_absolute (slice_range text i end) then Some (span i end, end) else None

abbrev pub uri_from : Option ℕ → List ℕ → ℕ → Option (Span × ℕ)
uri_from None text i = bare_uri text i
uri_from (Some place) text i = closed_uri text place

-- From and To have either form
unfoldable pub any_uri : List ℕ → ℕ → Option (Span × ℕ)
any_uri text i = uri_from (open_at text i) text i

-- Route has the form with < and >, and its URI reads by itself
unfoldable pub route_uri : List ℕ → ℕ → Option (Span × ℕ)
route_uri text i = do
  place ← open_at text i
  uri ← closed_uri text place
  read ← uri_at (take uri.0.to text) uri.0.from
  Some uri

abbrev pub tag_of : Option Param → Option Span
tag_of None = None
tag_of (Some p) = p.value

-- behind the URI: parameters, and the end of the field or a comma
unfoldable pub rest_at : List ℕ → ℕ → Span × ℕ → Option NameAddr
rest_at text start uri = do
  ps ← params_at Field text uri.1
  let params = known text ps
  next ← next_at text params.end
  Some record { uri = uri.0; tag = tag_of params.tag; whole = span start params.end; next = next }

unfoldable pub name_addr_at : List ℕ → ℕ → Option NameAddr
name_addr_at text from = do
  let start = lws_end text from
  uri ← any_uri text start
  rest_at text start uri

unfoldable pub route_at : List ℕ → ℕ → Option NameAddr
route_at text from = do
  let start = lws_end text from
  uri ← route_uri text start
  rest_at text start uri

-- each part lies between these places
pub record IsNameAddrBetween (i j : ℕ) (n : NameAddr) : Type 0 where
  pub uri : IsBetween i j n.uri
  pub tag : IfSome n.tag (IsBetween i j)
  pub whole : IsBetween i j n.whole
  pub next : IfSome n.next (λ k. (i < k) × (k ≤ j))
