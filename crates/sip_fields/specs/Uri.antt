-- URIs, as functions of a text and a place in it. A URI ends where the text ends.
use Rattle.std.specs.Prelude.{ℕ, ◌+◌, ◌==◌, Bool, false, List, length, Option, Some, None, IfSome, is_some, nat_lt, if◌then◌else◌, slice_range, codes}
use Rattle.std.specs.Str.{str_eq_ignore_ascii_case}
use Rattle.sip_words.specs.ByteNames.{COLON, QUESTION, AT}
use Rattle.sip_words.specs.declared.Span.{Span}
use Rattle.sip_words.specs.declared.bytes.Class.TheVariants.{Letter, Scheme, User, Password, BeforeAt}
use Rattle.sip_words.specs.declared.separators.Surroundings.TheVariants as surroundings
use Rattle.sip_words.specs.Bytes.{◌or◌}
use Rattle.sip_words.specs.Spans.{span, IsBetween}
use Rattle.sip_words.specs.Words.{◌>>=◌, run_end, word_end, stands}
use Rattle.sip_words.specs.Params.{params_at, known}
use Rattle.sip_fields.specs.declared.host.Host.TheVariants.{Name}
use Rattle.sip_fields.specs.declared.uri.Uri.{Uri}
use Rattle.sip_fields.specs.declared.uri.Scheme as scheme
use Rattle.sip_fields.specs.declared.uri.Scheme.TheVariants.{Sip, Sips, Other}
use Rattle.sip_fields.specs.Host.{host_at, port_at}

-- the place of the colon behind a scheme: a letter, then letters, digits, + - and .
unfoldable pub scheme_end : List ℕ → ℕ → Option ℕ
scheme_end text i = do
  letter ← word_end Letter text i
  let colon = run_end Scheme text i
  if stands COLON text colon then Some colon else None

-- one more byte stands behind this place
abbrev pub has_more : List ℕ → Option ℕ → Bool
has_more uri None = false
has_more uri (Some colon) = nat_lt (colon + 1) (length uri)

-- a scheme, a colon and one more byte at least
unfoldable pub is_absolute : List ℕ → Bool
is_absolute uri = has_more uri (scheme_end uri 0)

abbrev pub scheme_of : List ℕ → scheme.Scheme
scheme_of word =
    if str_eq_ignore_ascii_case word (codes "sip") then Sip else
    if str_eq_ignore_ascii_case word (codes "sips") then Sips else Other

unfoldable pub password_end : List ℕ → ℕ → ℕ
password_end text i = if stands COLON text i then run_end Password text (i + 1) else i

-- user@ or user:password@
unfoldable pub user_at : List ℕ → ℕ → Option (Option Span × ℕ)
user_at text i = do
  user ← word_end User text i
  let at = password_end text user
  if stands AT text at then Some (Some (span i user), at + 1) else None

-- the user stands exactly where an @ comes
unfoldable pub login_at : List ℕ → ℕ → Option (Option Span × ℕ)
login_at text i = if stands AT text (run_end BeforeAt text i) then user_at text i else Some (None, i)

-- user:password@host:port;parameters?headers
unfoldable pub sip_at : scheme.Scheme → List ℕ → ℕ → Option Uri
sip_at s text i = do
  login ← login_at text i
  host ← host_at text login.1
  port ← port_at surroundings.Uri text host.1
  ps ← params_at surroundings.Uri text port.1
  let params = known text ps
  if (params.end == length text) or stands QUESTION text params.end
      then Some record { scheme = s; user = login.0; host = host.0; host_at = span login.1 host.1; port = port.0; lr = is_some params.lr }
      else None

unfoldable pub other_at : List ℕ → ℕ → Option Uri
other_at text i =
    if i == length text then None
    else Some record { scheme = Other; user = None; host = Name; host_at = span i i; port = None; lr = false }

abbrev pub uri_behind : scheme.Scheme → List ℕ → ℕ → Option Uri
uri_behind Sip text i = sip_at Sip text i
uri_behind Sips text i = sip_at Sips text i
uri_behind Other text i = other_at text i

unfoldable pub uri_at : List ℕ → ℕ → Option Uri
uri_at text i = do
  colon ← scheme_end text i
  uri_behind (scheme_of (slice_range text i colon)) text (colon + 1)

-- each part lies between these places
pub record IsUriBetween (i j : ℕ) (u : Uri) : Type 0 where
  pub user : IfSome u.user (IsBetween i j)
  pub host_at : IsBetween i j u.host_at
